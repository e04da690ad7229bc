-- What banks one after another mean once two rows of them are joined.
use Rattle.std.proofs.Common.{◌≡◌, ◌≢◌, ℕ, ◌-◌, suc, Bool, true, false, cond, nat_lt, List, [], ◌∷◌, ◌++◌, take, ap, ◌∙◌, refl, arith}
use Rattle.std.proofs.lemmas.Bool.Decides.{nat_tests}
use Rattle.assembly.specs.Meaning.{cut_of}
use Rattle.assembly.specs.Banks.{bank_meaning}
use Rattle.assembly.specs.Joints.{answering, passed}
use Rattle.assembly.specs.Made.{joined}
use Rattle.assembly.specs.declared.bank.Bank.{Bank}
use Rattle.assembly.specs.declared.made.Joint.{Joint}

-- a joint below the cut stays in the lower part
stays : {X : Type 0} (a k q : ℕ) (b x y : X) → k ≢ 0 → nat_lt (k - 1) q ≡ false → cond (nat_lt a q) b (cond (nat_lt a k) x y) ≡ cond (nat_lt a k) (cond (nat_lt a q) b x) y
stays a k q b x y n e = grind (arith, nat_tests)

-- one at the cut or above it is not reached
goes : {X : Type 0} (a k q : ℕ) (b x y : X) → k ≢ 0 → nat_lt (k - 1) q ≡ true → cond (nat_lt a k) b y ≡ cond (nat_lt a k) (cond (nat_lt a q) b x) y
goes a k q b x y n e = grind (arith, nat_tests)

answering_by : (a k : ℕ) (b c : Bank) (l : Joint) (ls us : List Joint) (v : Bool) → k ≢ 0 → nat_lt (k - 1) l.at ≡ v
    → answering a l.bank (take (passed (k - 1) ls) ls ++ record { at = k; bank = c } ∷ us) ≡ cond (nat_lt a k) (answering a l.bank ls) (answering a c us)
    → answering a b (take (cond v 0 (suc (passed (k - 1) ls))) (l ∷ ls) ++ record { at = k; bank = c } ∷ us) ≡ cond (nat_lt a k) (answering a b (l ∷ ls)) (answering a c us)
answering_by a k b c l ls us true n e h = goes a k l.at b (answering a l.bank ls) (answering a c us) n e
answering_by a k b c l ls us false n e h = ap (λ t. cond (nat_lt a l.at) b t) h ∙ stays a k l.at b (answering a l.bank ls) (answering a c us) n e

answering_cut : (a k : ℕ) (b c : Bank) (ls us : List Joint) → k ≢ 0
    → answering a b (take (passed (k - 1) ls) ls ++ record { at = k; bank = c } ∷ us) ≡ cond (nat_lt a k) (answering a b ls) (answering a c us)
answering_cut a k b c [] us n = refl
answering_cut a k b c (l ∷ ls) us n = answering_by a k b c l ls us (nat_lt (k - 1) l.at) n refl (answering_cut a k l.bank c ls us n)

rights_of_cond : (a : ℕ) (v : Bool) (b c : Bank) → (bank_meaning (cond v b c)).rights a ≡ cond v ((bank_meaning b).rights a) ((bank_meaning c).rights a)
rights_of_cond a true b c = refl
rights_of_cond a false b c = refl

bytes_of_cond : (a : ℕ) (v : Bool) (b c : Bank) → (bank_meaning (cond v b c)).bytes a ≡ cond v ((bank_meaning b).bytes a) ((bank_meaning c).bytes a)
bytes_of_cond a true b c = refl
bytes_of_cond a false b c = refl

pub joined_cut : (k : ℕ) (b c : Bank) (ls us : List Joint) → k ≢ 0
    → joined b (take (passed (k - 1) ls) ls ++ record { at = k; bank = c } ∷ us) ≡ cut_of k (joined b ls) (joined c us)
joined_cut k b c ls us n =
    let js = take (passed (k - 1) ls) ls ++ record { at = k; bank = c } ∷ us in
    let r : (a : ℕ) → (joined b js).rights a ≡ (cut_of k (joined b ls) (joined c us)).rights a
    = λ a. ap (λ t. (bank_meaning t).rights a) (answering_cut a k b c ls us n) ∙ rights_of_cond a (nat_lt a k) (answering a b ls) (answering a c us) in
    let y : (a : ℕ) → (joined b js).bytes a ≡ (cut_of k (joined b ls) (joined c us)).bytes a
    = λ a. ap (λ t. (bank_meaning t).bytes a) (answering_cut a k b c ls us n) ∙ bytes_of_cond a (nat_lt a k) (answering a b ls) (answering a c us) in
    λ i. record { rights = λ a. r a i; bytes = λ a. y a i }
