-- What one step does with the board, one byte at a time, and what comes of it.
use Rattle.std.specs.Prelude.{◌≡◌, ℕ, zero, suc, ◌<◌, Bool, true, false, ◌||◌, ◌⊎◌, List, [], ◌∷◌, ◌++◌, Some, None, Ok, Err, Option, Result}
use Rattle.board.specs.declared.Right.{Right}
use Rattle.board.specs.Meaning.{fetched, writable}
use Rattle.bus.specs.declared.refusal.Refusal.{Refusal}
use Rattle.bus.specs.declared.refusal.Refusal.TheVariants.{NoRight}
use Rattle.bus.specs.declared.line.ReadLine.{ReadLine}
use Rattle.bus.specs.declared.line.WriteLine.{WriteLine}
use Rattle.bus.specs.Sheets.{names}
use Rattle.bus.specs.Buffer.{last_set}

-- A program of accesses: it gives a value, refuses, or does one access and goes on.
-- `fetch a k` fetches the byte at a and goes on as k says of that byte; `ask a k` asks for the right to store at a;
-- `put a b k` sets the byte at a, which is kept back until the step is accepted.
pub data Program (A : Type 0) : Type 0 where
  give : A → Program A
  refuse : Refusal → Program A
  fetch : ℕ → (ℕ → Program A) → Program A
  ask : ℕ → Program A → Program A
  put : ℕ → ℕ → Program A → Program A

-- one program after another
infixl 10 ◌>>=◌
unfoldable pub ◌>>=◌ : {A B : Type 0} → Program A → (A → Program B) → Program B
◌>>=◌ (give x) f = f x
◌>>=◌ (refuse e) f = refuse e
◌>>=◌ (fetch a k) f = fetch a (λ b. k b >>= f)
◌>>=◌ (ask a k) f = ask a (k >>= f)
◌>>=◌ (put a b k) f = put a b (k >>= f)

-- what a step finds and does not change: the board, and the used lines of the writes sheet
pub record World : Type 0 where
  pub rights : ℕ → Right
  pub bytes : ℕ → ℕ
  pub writes : List WriteLine

-- what a step leaves: the used lines of the reads sheet, and the bytes that it has set, each with its address, in order
pub record Trail : Type 0 where
  pub reads : List ReadLine
  pub own : List (ℕ × ℕ)

-- the byte that the step has set at address a
abbrev pub own_byte : ℕ → Trail → Option ℕ
own_byte a t = last_set a t.own

-- whether a used line of either sheet names address a
abbrev pub listed : ℕ → World → Trail → Bool
listed a w t = names (λ l. l.address) a t.reads || names (λ l. l.address) a w.writes

-- one line more on the reads sheet
abbrev pub with_line : ℕ → ℕ → Trail → Trail
with_line a b t = record { reads = t.reads ++ (record { address = a; byte = b } ∷ []); own = t.own }

-- one byte more set by the step
abbrev pub with_byte : ℕ → ℕ → Trail → Trail
with_byte a b t = record { reads = t.reads; own = t.own ++ ((a, b) ∷ []) }

-- what a program answers, and what it leaves
abbrev pub Outcome : Type 0 → Type 0
Outcome A = Result A Refusal × Trail

-- a fetch at a, by: the byte that the step itself has set there, what the board answers, and whether a used line names a
abbrev pub fetching : {A : Type 0} → ℕ → (ℕ → Trail → Outcome A) → Trail → Option ℕ → Option ℕ → Bool → Outcome A
fetching a k t (Some b) f l = k b t
fetching a k t None None l = (Err (NoRight a), t)
fetching a k t None (Some b) true = k b t
fetching a k t None (Some b) false = k b (with_line a b t)

-- asking for the right to store at a, by whether it is there
abbrev pub asking : {A : Type 0} → ℕ → (Trail → Outcome A) → Trail → Bool → Outcome A
asking a k t true = k t
asking a k t false = (Err (NoRight a), t)

-- what a program comes to
unfoldable pub runs : {A : Type 0} → Program A → World → Trail → Outcome A
runs (give x) w t = (Ok x, t)
runs (refuse e) w t = (Err e, t)
runs (fetch a k) w t = fetching a (λ b u. runs (k b) w u) t (own_byte a t) (fetched (w.rights a) (w.bytes a)) (listed a w t)
runs (ask a k) w t = asking a (λ u. runs k w u) t (writable (w.rights a))
runs (put a b k) w t = runs k w (with_byte a b t)

-- an answer that the program may come to, whatever the board answers
unfoldable pub Leads : {A : Type 0} → Program A → Result A Refusal → Type 0
Leads (give x) r = r ≡ Ok x
Leads (refuse e) r = r ≡ Err e
Leads (fetch a k) r = ((b : ℕ) × (b < 256) × Leads (k b) r) ⊎ (r ≡ Err (NoRight a))
Leads (ask a k) r = Leads k r ⊎ (r ≡ Err (NoRight a))
Leads (put a b k) r = Leads k r

-- the three accesses by themselves
abbrev pub fetch_byte : ℕ → Program ℕ
fetch_byte a = fetch a give

abbrev pub ask_byte : ℕ → Program (Unit {0})
ask_byte a = ask a (give tt)

abbrev pub put_byte : ℕ → ℕ → Program (Unit {0})
put_byte a b = put a b (give tt)

-- a program that only answers
abbrev pub answer : {A : Type 0} → Result A Refusal → Program A
answer (Ok x) = give x
answer (Err e) = refuse e

-- f for each number below n, in order, each going on from what the one before gave
unfoldable pub times : {A : Type 0} → ℕ → (ℕ → A → Program A) → A → Program A
times zero f x = give x
times (suc n) f x = times n f x >>= f n
