use Rattle.std.proofs.Common.{sym}
use Rattle.bus.proofs.Laws.{goes_on, ends_at, hands_on, by_case}
use Rattle.number.specs.Sizes.{byte_count}
use Rattle.bus.specs.Wide.{ask_bytes, put_number}
use Rattle.strings.specs.Strings.{put_character}
use Rattle.strings.proofs.string.Transfer.put.Goals as goal

pub returns-in_err-ask_bytes : goal.returns-in_err-ask_bytes
unfolding put_character
returns-in_err-ask_bytes g c = hands_on c.from_residual.ensures.1 (ends_at _ (by_case (ask_bytes (byte_count c.args.self.size)) (sym c.character-at.ensures) c.in_err-ask_bytes.ensures))

pub returns : goal.returns
unfolding put_character
returns g c =
    goes_on _ (by_case (ask_bytes (byte_count c.args.self.size)) (sym c.character-at.ensures) c.in_ok-ask_bytes.ensures)
    (by_case (λ a. put_number (byte_count c.args.self.size) a c.args.value) (sym c.character-at.ensures) c.put_number.ensures)
