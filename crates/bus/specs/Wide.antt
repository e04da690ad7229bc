-- Numbers of several bytes, the lowest first, past FFFFFFFFh to 0.
use Rattle.std.specs.Prelude.{ℕ, ◌+◌, ◌*◌, ◌^◌}
use Rattle.board.specs.Block.{above}
use Rattle.number.specs.Words.{byte_of}
use Rattle.bus.specs.Program.{Program, give, ◌>>=◌, fetch_byte, ask_byte, put_byte, times}

-- the number of n bytes from address a on
unfoldable pub fetch_number : ℕ → ℕ → Program ℕ
fetch_number n a = times n (λ i low. fetch_byte (above a i) >>= λ b. give (low + b * 256 ^ i)) 0

-- the right to store at each of n addresses from a on
unfoldable pub ask_bytes : ℕ → ℕ → Program (Unit {0})
ask_bytes n a = times n (λ i _. ask_byte (above a i)) tt

-- sets the n bytes of a number from address a on
unfoldable pub put_number : ℕ → ℕ → ℕ → Program (Unit {0})
put_number n a x = times n (λ i _. put_byte (above a i) (byte_of x i)) tt
