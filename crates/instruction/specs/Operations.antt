-- How each instruction accesses its operands.
use Rattle.instruction.specs.declared.operation.Access.{Access}
use Rattle.instruction.specs.declared.operation.Access.TheVariants.{Read, Write, Modify, Address}
use Rattle.instruction.specs.declared.operation.TwoOperation.{TwoOperation}
use Rattle.instruction.specs.declared.operation.TwoOperation.TheVariants.{Mov, Movs, Movz, Movea, Add, Addc, Sub, Subc, Cmp, Neg, And, Or, Xor, Not, Shl, Sha, Rot}
use Rattle.instruction.specs.declared.operation.OneOperation.{OneOperation}
use Rattle.instruction.specs.declared.operation.OneOperation.TheVariants.{Inc, Dec, Test, Push, Pop, Jmp, Jsr}

abbrev pub first_access : TwoOperation → Access
first_access Mov = Read
first_access Movs = Read
first_access Movz = Read
first_access Movea = Address
first_access Add = Read
first_access Addc = Read
first_access Sub = Read
first_access Subc = Read
first_access Cmp = Read
first_access Neg = Read
first_access And = Read
first_access Or = Read
first_access Xor = Read
first_access Not = Read
first_access Shl = Read
first_access Sha = Read
first_access Rot = Read

abbrev pub second_access : TwoOperation → Access
second_access Mov = Write
second_access Movs = Write
second_access Movz = Write
second_access Movea = Write
second_access Add = Modify
second_access Addc = Modify
second_access Sub = Modify
second_access Subc = Modify
second_access Cmp = Read
second_access Neg = Write
second_access And = Modify
second_access Or = Modify
second_access Xor = Modify
second_access Not = Write
second_access Shl = Modify
second_access Sha = Modify
second_access Rot = Modify

abbrev pub one_access : OneOperation → Access
one_access Inc = Modify
one_access Dec = Modify
one_access Test = Read
one_access Push = Read
one_access Pop = Write
one_access Jmp = Address
one_access Jsr = Address
