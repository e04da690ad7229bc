use Rattle.bus.proofs.Laws.{goes_on, ends_at, hands_on}
use Rattle.strings.specs.Strings.{copy_character}
use Rattle.strings.proofs.string.Transfer.copy_one.Goals as goal

pub returns-in_err-value : goal.returns-in_err-value
unfolding copy_character
returns-in_err-value g c = hands_on c.from_residual.ensures.1 (ends_at _ c.in_err-value.ensures)

pub returns : goal.returns
unfolding copy_character
returns g c = goes_on _ c.in_ok-value.ensures c.put.ensures
