-- Where stretches of one right end.
use Rattle.std.proofs.Common.{◌≡◌, ◌<◌, ◌≤◌, ◌+◌, ◌^◌, ℕ, Bool, true, false, cond, nat_lt, List, [], ◌∷◌, min, ap, subst, ◌∙◌, refl, arith}
use Rattle.std.proofs.lemmas.Bool.Decides.{nat_tests}
use Rattle.board.specs.Region.{RegionEnd}
use Rattle.assembly.specs.Banks.{bank_meaning}
use Rattle.assembly.specs.Joints.{answering, next_joint}
use Rattle.assembly.specs.Made.{joined}
use Rattle.assembly.specs.Stretch.{Stretch}
use Rattle.assembly.specs.declared.bank.Bank.{Bank}
use Rattle.assembly.specs.declared.made.Joint.{Joint}

below_too : (a x q n : ℕ) (v : Bool) → nat_lt a q ≡ v → a ≤ x → x < cond v q n → nat_lt x q ≡ v
below_too a x q n true e h l = grind (arith, nat_tests)
below_too a x q n false e h l = grind (arith, nat_tests)

same_bank_by : (a x : ℕ) (b : Bank) (j : Joint) (js : List Joint) (v : Bool) → nat_lt a j.at ≡ v → nat_lt x j.at ≡ v
    → (v ≡ false → answering x j.bank js ≡ answering a j.bank js) → answering x b (j ∷ js) ≡ answering a b (j ∷ js)
same_bank_by a x b j js true e f h = rw (e, f) refl
same_bank_by a x b j js false e f h = rw (e, f) (h refl)

same_bank : (a x : ℕ) (b : Bank) (js : List Joint) → a ≤ x → x < next_joint a js → answering x b js ≡ answering a b js
same_bank a x b [] h l = refl
same_bank a x b (j ∷ js) h l =
    same_bank_by a x b j js (nat_lt a j.at) refl (below_too a x j.at (next_joint a js) (nat_lt a j.at) refl h l)
    (λ e. same_bank a x j.bank js h (subst (λ v. x < cond v j.at (next_joint a js)) e l))

next_joint_by : (a q n : ℕ) (v : Bool) → nat_lt a q ≡ v → a < n → a < cond v q n
next_joint_by a q n true e l = grind (arith, nat_tests)
next_joint_by a q n false e l = l

next_joint_above : (a : ℕ) (js : List Joint) → a < 2 ^ 32 → a < next_joint a js
next_joint_above a [] l = l
next_joint_above a (j ∷ js) l = next_joint_by a j.at (next_joint a js) (nat_lt a j.at) refl (next_joint_above a js l)

-- the region of the bank that answers, up to the next joint
pub stretch_of_bank : (a e f : ℕ) (b : Bank) (js : List Joint) → a < 2 ^ 32 → RegionEnd (bank_meaning (answering a b js)).rights a e → f + 1 ≡ next_joint a js
    → Stretch (joined b js).rights a (min e f)
stretch_of_bank a e f b js l r n =
    record {
      onward = omega (arith, r.onward, next_joint_above a js l);
      within = omega (arith, r.within);
      same = λ x h k.
          let in_reach : x < next_joint a js = omega arith in
          ap (λ t. (bank_meaning t).rights x) (same_bank a x b js h in_reach) ∙ r.same x h (omega arith);
    }
