-- The rule of the opcode table, computed once over all of its entries.
use Rattle.std.proofs.Common.{◌≡◌, ℕ, ◌<◌, List, map, get_or, None, Option, ap, ◌∙◌, arith}
use Rattle.std.specs.List.{range_with_len}
use Rattle.std.proofs.lemmas.List.FromFn.{get_or-map-range_with_len}
use Rattle.instruction.specs.declared.opcode.Entry.{Entry}
use Rattle.instruction.specs.Opcodes.{entry}

-- a table that has the entry of each opcode
abbrev pub Right : List (Option Entry) → Type 0
Right table = table ≡ map entry (range_with_len 0 256)

pub rule : (op n : ℕ) → n ≡ op → op < 256 → (table : List (Option Entry)) → Right table → get_or table n None ≡ entry op
rule op n e m table h = ap (λ k. get_or table k None) e ∙ (ap (λ xs. get_or xs op None) h ∙ get_or-map-range_with_len entry 0 256 op op None m (omega arith))
