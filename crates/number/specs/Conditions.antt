-- The sixteen conditions over the flags.
use Rattle.std.specs.Prelude.{ℕ, ◌+◌, ◌*◌, ◌%◌, Bool, true, false, not, ◌||◌, List, [], ◌∷◌, slice_index_or}
use Rattle.std.specs.Int.{from_bool}
use Rattle.number.specs.declared.flags.Flags.{Flags}

-- the flags as a number of four bits: CY, OV, S, Z from the top
abbrev pub number_of : Flags → ℕ
number_of f = 8 * from_bool f.cy + 4 * from_bool f.ov + 2 * from_bool f.s + from_bool f.z

-- whether the two differ
abbrev pub differ : Bool → Bool → Bool
differ true b = not b
differ false b = b

-- each condition, by its number: 11 never holds
abbrev pub conditions : Flags → List Bool
conditions f =
    f.ov ∷ not f.ov ∷
    f.cy ∷ not f.cy ∷
    f.z ∷ not f.z ∷
    (f.cy || f.z) ∷ not (f.cy || f.z) ∷
    f.s ∷ not f.s ∷
    true ∷ false ∷
    differ f.s f.ov ∷ not (differ f.s f.ov) ∷
    (f.z || differ f.s f.ov) ∷ not (f.z || differ f.s f.ov) ∷ []

-- whether the condition of that number holds; of a number above 15 the low four bits count
abbrev pub condition : ℕ → Flags → Bool
condition c f = slice_index_or (conditions f) (c % 16) false
