-- What each operation on numbers of w bits comes to: a number and four flags.
use Rattle.std.specs.Prelude.{ℕ, ◌+◌, ◌-◌, ◌*◌, ◌/◌, ◌%◌, ◌^◌, Bool, false, cond, not, ◌&&◌, ℤ, pos, ◌+ℤ◌, ◌-ℤ◌, ◌*ℤ◌, ◌==◌, bit_and, bit_or, bit_xor, int_lt, nat_le, unsigned_abs}
use Rattle.std.specs.Int.{from_bool}
use Rattle.std.specs.Int.Signed.{shr_z}
use Rattle.number.specs.Words.{modulo, residue, signed, fits, bit, signed_bit}
use Rattle.number.specs.declared.flags.Flags.{Flags}
use Rattle.number.specs.declared.arithmetic.Computed.{Computed}

pub record Outcome : Type 0 where
  pub number : ℕ
  pub flags : Flags

-- what code computed: the number that value makes of its value, and its flags
abbrev pub shown : {W : Type 0} → (W → ℕ) → Computed W → Outcome
shown value c = record { number = value c.value; flags = c.flags }

-- the number n with CY and OV as given; S is its top bit, and Z says that it is 0
abbrev pub outcome : ℕ → ℕ → Bool → Bool → Outcome
outcome w n cy ov = record { number = n; flags = record { cy = cy; ov = ov; s = bit (w - 1) n; z = (n == 0) } }

-- dst + src, and 1 more with a carry. CY: the sum reached 2^w. OV: the signed sum does not fit
abbrev pub added : ℕ → ℕ → ℕ → Bool → Outcome
added w dst src carry =
    let sum : ℕ = dst + src + from_bool carry in
    let exact : ℤ = signed w dst +ℤ signed w src +ℤ pos (from_bool carry) in
    outcome w (sum % 2 ^ w) (nat_le (2 ^ w) sum) (not (fits w exact))

-- dst - src, and 1 less with a borrow. CY: the difference fell below 0. OV: the signed difference does not fit
abbrev pub subtracted : ℕ → ℕ → ℕ → Bool → Outcome
subtracted w dst src borrow =
    let difference : ℤ = pos dst -ℤ pos src -ℤ pos (from_bool borrow) in
    let exact : ℤ = signed w dst -ℤ signed w src -ℤ pos (from_bool borrow) in
    outcome w (residue w difference) (int_lt difference (pos 0)) (not (fits w exact))

-- the logical operations clear OV and leave CY as it was before
abbrev pub anded : ℕ → ℕ → ℕ → Flags → Outcome
anded w dst src before = outcome w (bit_and dst src) before.cy false

abbrev pub ored : ℕ → ℕ → ℕ → Flags → Outcome
ored w dst src before = outcome w (bit_or dst src) before.cy false

abbrev pub xored : ℕ → ℕ → ℕ → Flags → Outcome
xored w dst src before = outcome w (bit_xor dst src) before.cy false

-- each bit the other way
abbrev pub inverted : ℕ → ℕ → Flags → Outcome
inverted w src before = outcome w (2 ^ w - 1 - src) before.cy false

-- the number as it is; CY and OV are cleared
abbrev pub tested : ℕ → ℕ → Outcome
tested w src = outcome w src false false

-- dst times 2^k modulo 2^w. CY: bit w of the product, where k is above 0
abbrev pub left : ℕ → ℕ → ℕ → Bool → Outcome
left w dst k ov = outcome w (dst * 2 ^ k % 2 ^ w) (not (k == 0) && bit w (dst * 2 ^ k)) ov

-- dst shifted by c to the left; or to the right, divided by 2^-c and rounded down, where c is below 0.
-- CY is then bit -c - 1 of dst
abbrev pub shifted : ℕ → ℕ → ℤ → Outcome
shifted w dst c =
    let k : ℕ = unsigned_abs c in
    cond (int_lt c (pos 0)) (outcome w (dst / 2 ^ k) (bit (k - 1) dst) false) (left w dst k false)

-- the same on the signed value of dst. OV: to the left, the signed product does not fit
abbrev pub arithmetic_shifted : ℕ → ℕ → ℤ → Outcome
arithmetic_shifted w dst c =
    let k : ℕ = unsigned_abs c in
    let z : ℤ = signed w dst in
    cond (int_lt c (pos 0)) (outcome w (residue w (shr_z z (2 ^ k))) (signed_bit (k - 1) z) false)
    (left w dst k (not (fits w (z *ℤ pos (2 ^ k)))))

-- n turned to the left by k bits, k below w: what leaves at the top of w bits comes in at the bottom
abbrev pub turned : ℕ → ℕ → ℕ → ℕ
turned w n k = n * 2 ^ k % 2 ^ w + n * 2 ^ k / 2 ^ w

-- dst turned to the left by c modulo w. CY: the bit that came over last, bit 0 of the result, or the top bit where c is below 0
abbrev pub rotated : ℕ → ℕ → ℤ → Outcome
rotated w dst c =
    let n : ℕ = turned w dst (modulo c w) in
    outcome w n (cond (int_lt c (pos 0)) (bit (w - 1) n) (not (unsigned_abs c == 0) && bit 0 n)) false
