-- Banks one after another: a first one, and then a joint for each other, the address from which on its bank answers.
use Rattle.std.specs.Prelude.{ℕ, suc, ◌^◌, cond, List, [], ◌∷◌, nat_lt}
use Rattle.assembly.specs.declared.bank.Bank.{Bank}
use Rattle.assembly.specs.declared.made.Joint.{Joint}

-- the bank that answers at address a: the last one before a joint that lies above a
abbrev pub answering : ℕ → Bank → List Joint → Bank
answering a b [] = b
answering a b (j ∷ js) = cond (nat_lt a j.at) b (answering a j.bank js)

-- how many joints come before one that lies above a
abbrev pub passed : ℕ → List Joint → ℕ
passed a [] = 0
passed a (j ∷ js) = cond (nat_lt a j.at) 0 (suc (passed a js))

-- the first joint that lies above a, or the end of all addresses
abbrev pub next_joint : ℕ → List Joint → ℕ
next_joint a [] = 2 ^ 32
next_joint a (j ∷ js) = cond (nat_lt a j.at) j.at (next_joint a js)
