-- What is admitted may be made.
use Rattle.std.proofs.Common.{◌≡◌, ℕ, Bool, true, false, cond, not, ◌&&◌, leb, Ok, Err, Result, refl, arith}
use Rattle.bus.specs.declared.refusal.Refusal.{Refusal}
use Rattle.bus.specs.declared.refusal.Refusal.TheVariants.{ReservedEncoding, ForbiddenMode, NoSuchRegister}
use Rattle.instruction.specs.declared.action.Action.{Action}
use Rattle.instruction.specs.Lawful.{registers_named, immediate_written, action_taken, lawful, admitted}

by_tests : (r w t : Bool) → ◌≡◌ {A = Result (Unit {0}) Refusal} (cond (not r) (Err NoSuchRegister) (cond w (Err (ForbiddenMode 0)) (cond t (Ok tt) (Err (ReservedEncoding 0))))) (Ok tt) → (r && (not w && t)) ≡ true
by_tests false w t e = let z : ◌≡◌ {A = ℕ} 0 1 = cc in absurd (omega arith)
by_tests true true t e = let z : ◌≡◌ {A = ℕ} 0 1 = cc in absurd (omega arith)
by_tests true false true e = refl
by_tests true false false e = let z : ◌≡◌ {A = ℕ} 0 1 = cc in absurd (omega arith)

pub lawful_if : (a : Action) (n : ℕ) → admitted a n ≡ Ok tt → lawful a n ≡ true
lawful_if a n e = by_tests (registers_named a) (immediate_written a) (action_taken a n && (leb 1 n && leb n 22)) e
