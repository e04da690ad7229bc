pub mod Table
pub mod Permits
pub mod Fine
pub mod FineFormats
pub mod Admitted
pub mod Fetches
pub mod Narrow
