-- The worked steps, by computing what the definitions come to.
use Rattle.std.proofs.Common.{refl}
use Rattle.bus.specs.Sheets.{All}
use Rattle.bus.specs.Program.{◌>>=◌, runs, times}
use Rattle.bus.specs.Wide.{fetch_number, ask_bytes, put_number}
use Rattle.instruction.specs.Opcodes.{entry}
use Rattle.instruction.specs.Decode.{displacement, shape_at, permit, indexed_at, immediate_at, by_mode, operand_at}
use Rattle.instruction.specs.Formats.{register_first, register_second, two_by, length_at, string_at, strings_by, by_entry, decode, two_operands as decode-two, string_instruction as decode-string}
use Rattle.processor.specs.Operands.{address_of, locate, read_at, write_at}
use Rattle.execute.specs.Two.{taken, left, two_operands}
use Rattle.strings.specs.Strings.{counted, put_character, copy_character, copied, moved, worked, string_instruction}
use Rattle.execute.specs.Execute.{acted}
use Rattle.execute.specs.Step.{one_step}
use Rattle.session.specs.Calls.{attempted, tries, ran}
use Rattle.history.specs.History.{after}
use Rattle.history.specs.Worked.{Agrees, jobs}

pub all_agree : All Agrees jobs
unfolding ◌>>=◌ runs times fetch_number ask_bytes put_number entry displacement shape_at permit indexed_at immediate_at by_mode operand_at register_first register_second two_by length_at string_at strings_by by_entry decode decode-two decode-string address_of locate read_at write_at taken left two_operands counted put_character copy_character copied moved worked string_instruction acted one_step attempted tries ran after
all_agree = (
  record { answers = refl; facts = (refl, (refl, (refl, tt))) },
  (
    record { answers = refl; facts = (refl, (refl, tt)) },
    (
      record { answers = refl; facts = (refl, (refl, tt)) },
      (
        record { answers = refl; facts = (refl, (refl, ((refl, refl, refl), tt))) },
        (
          record { answers = refl; facts = (refl, tt) },
          (
            record { answers = refl; facts = (refl, tt) },
            (
              record { answers = refl; facts = (refl, (refl, tt)) },
              (
                record { answers = refl; facts = (refl, (refl, tt)) },
                (
                  record { answers = refl; facts = (refl, (refl, tt)) },
                  (
                    record { answers = refl; facts = (refl, tt) },
                    (
                      record { answers = refl; facts = (refl, (refl, (refl, (refl, (refl, (refl, tt)))))) },
                      tt,
                    ),
                  ),
                ),
              ),
            ),
          ),
        ),
      ),
    ),
  ),
)
