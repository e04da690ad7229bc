use Rattle.std.proofs.Common.{sym, ap, ◌∙◌, inl, inr}
use Rattle.board.specs.Meaning.{writable}
use Rattle.bus.proofs.Single.{ask_granted, ask_denied}
use Rattle.bus.proofs.step.StepBusBus.ask.Goals as goal

pub returns-in-ReadWrite : goal.returns-in-ReadWrite
returns-in-ReadWrite g c = ask_granted _ _ (ap writable (sym c.in-ReadWrite.ensures))

pub returns-in-ReadOnly : goal.returns-in-ReadOnly
returns-in-ReadOnly g c =
    ask_denied _ _ (ap writable (sym c.right.ensures) ∙ (elim c.in-ReadOnly.is [ inl e ↦ ap writable e | inr e ↦ ap writable e ]))
