-- Numbers of w bits, with and without a sign, and their bits and bytes.
use Rattle.std.specs.Prelude.{ℕ, zero, suc, ◌+◌, ◌-◌, ◌*◌, ◌/◌, ◌%◌, ◌^◌, Bool, cond, List, ℤ, pos, negsuc, ◌-ℤ◌, ◌==◌, nat_lt, slice_index}
use Rattle.std.specs.Int.Signed.{shr_z}

-- z modulo m, from 0 up to m - 1; negsuc n is -(n + 1)
abbrev pub modulo : ℤ → ℕ → ℕ
modulo (pos n) m = n % m
modulo (negsuc n) m = m - 1 - n % m

-- the number of w bits that z is modulo 2^w
abbrev pub residue : ℕ → ℤ → ℕ
residue w z = modulo z (2 ^ w)

-- the number n of w bits, read with its sign
abbrev pub signed : ℕ → ℕ → ℤ
signed w n = cond (nat_lt n (2 ^ (w - 1))) (pos n) (pos n -ℤ pos (2 ^ w))

-- whether z is a signed number of w bits, from -2^(w-1) up to 2^(w-1) - 1
abbrev pub fits : ℕ → ℤ → Bool
fits w (pos n) = nat_lt n (2 ^ (w - 1))
fits w (negsuc n) = nat_lt n (2 ^ (w - 1))

-- bit i of n
abbrev pub bit : ℕ → ℕ → Bool
bit i n = n / 2 ^ i % 2 == 1

-- bit i of z: whether z / 2^i, rounded down, is odd
abbrev pub signed_bit : ℕ → ℤ → Bool
signed_bit i z = modulo (shr_z z (2 ^ i)) 2 == 1

-- byte i of n, the lowest first
abbrev pub byte_of : ℕ → ℕ → ℕ
byte_of n i = n / 256 ^ i % 256

-- the number whose bytes are the first k of a list, the lowest first
abbrev pub from_bytes : ℕ → List ℕ → ℕ
from_bytes zero bytes = 0
from_bytes (suc k) bytes = from_bytes k bytes + slice_index bytes k * 256 ^ k
