-- Reading numbers one after the other, as a loop does.
use Rattle.std.proofs.Common.{◌≡◌, ℕ, suc, ◌-◌, ◌+◌, ◌≤◌, ◌<◌, List, [], ◌∷◌, ◌++◌, Result, Ok, Err, refl, sym, ap, ◌∙◌, append_assoc, arith}
use Rattle.std.proofs.lemmas.List.{append-nil}
use Rattle.script.specs.declared.command_name.CommandName.{CommandName}
use Rattle.script.specs.declared.problem.Problem.{Problem}
use Rattle.script.specs.Fields.{◌>>=◌, reading_at, readings_at}

-- what was read before, and what is still read
abbrev pub with_front : List ℕ → Result (List ℕ × List (List ℕ)) Problem → Result (List ℕ × List (List ℕ)) Problem
with_front front read = read >>= λ x. Ok (front ++ x.0, x.1)

regroup : (front : List ℕ) (n : ℕ) (read : Result (List ℕ × List (List ℕ)) Problem) → with_front front (read >>= λ x. Ok (n ∷ x.0, x.1)) ≡ with_front (front ++ n ∷ []) read
regroup front n (Ok x) = ap (λ (ns : List ℕ). Ok (ns, x.1)) (simp append_assoc)
regroup front n (Err f) = refl

pub goes_on : (front : List ℕ) (name : CommandName) (count i : ℕ) (ws : List (List ℕ)) (n : ℕ) (after : List (List ℕ)) (all : Result (List ℕ × List (List ℕ)) Problem) → i < count → reading_at name ws ≡ Ok (n, after)
    → with_front front (readings_at (count - i) name ws) ≡ all → with_front (front ++ n ∷ []) (readings_at (count - (i + 1)) name after) ≡ all
unfolding readings_at
goes_on front name count i ws n after all lt h so_far =
    let k : count - i ≡ suc (count - (i + 1)) = omega arith in
    let one : with_front front (readings_at (count - i) name ws) ≡ with_front (front ++ n ∷ []) (readings_at (count - (i + 1)) name after) = rw (k, h) (regroup front n (readings_at (count - (i + 1)) name after)) in
    sym one ∙ so_far

pub stops : (e : Problem) (front : List ℕ) (name : CommandName) (count i : ℕ) (ws : List (List ℕ)) (all : Result (List ℕ × List (List ℕ)) Problem) → i < count → reading_at name ws ≡ Err e
    → with_front front (readings_at (count - i) name ws) ≡ all → all ≡ Err e
unfolding readings_at
stops e front name count i ws all lt h so_far =
    let k : count - i ≡ suc (count - (i + 1)) = omega arith in
    let one : with_front front (readings_at (count - i) name ws) ≡ Err e = rw (k, h) refl in
    sym so_far ∙ one

pub is_done : (front : List ℕ) (name : CommandName) (count i : ℕ) (ws : List (List ℕ)) (all : Result (List ℕ × List (List ℕ)) Problem) → count ≤ i → with_front front (readings_at (count - i) name ws) ≡ all → all ≡ Ok (front, ws)
unfolding readings_at
is_done front name count i ws all le so_far =
    let k : count - i ≡ 0 = omega arith in
    let one : with_front front (readings_at (count - i) name ws) ≡ Ok (front, ws) = rw k (ap (λ (ns : List ℕ). Ok (ns, ws)) (append-nil front)) in
    sym so_far ∙ one
