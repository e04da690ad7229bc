-- Verdicts and options as programs.
use Rattle.std.proofs.Common.{◌≡◌, ℕ, Option, Result, ap, ◌∙◌}
use Rattle.std.specs.Option.{ok_or}
use Rattle.bus.specs.Program.{answer}
use Rattle.bus.specs.declared.refusal.Refusal.{Refusal}
use Rattle.bus.specs.Seen.{Seen, Runs}
use Rattle.bus.proofs.Laws.{answers}
use Rattle.instruction.specs.declared.mode.Misfit.{Misfit}
use Rattle.instruction.specs.Decode.{judged, permit}

pub permits : {s : Seen} {r : Result (Unit {0}) Refusal} (p : ℕ) {v w : Result (Unit {0}) Misfit} → v ≡ w → r ≡ judged p v → Runs (permit p w) s r s
unfolding permit
permits {s} {r} p {v} {w} e h = answers (judged p w) r (h ∙ ap (judged p) e)

pub picks : {A : Type 0} {s : Seen} {r : Result A Refusal} {o p : Option A} (e : Refusal) → o ≡ p → r ≡ ok_or o e → Runs (answer (ok_or p e)) s r s
picks {r = r} {p = p} e h k = answers (ok_or p e) r (k ∙ ap (λ x. ok_or x e) h)
