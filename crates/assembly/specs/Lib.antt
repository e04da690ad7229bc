pub mod Meaning
pub mod Banks
pub mod Joints
pub mod Made
pub mod Stretch
pub mod Stack
pub mod Lending
