-- The same of a line.
use Rattle.std.proofs.Common.{◌≡◌, ℕ, Bool, true, false, cond, eqb, eqb-true, get_or, List, [], ◌∷◌, Option, Some, None, Result, Ok, Err, ok_or, option_map, IfOk, IfSome, ◌↔◌, refl, sym, ap, ◌∙◌, subst}
use Rattle.script.specs.declared.command.Command.{Command}
use Rattle.script.specs.declared.command_name.CommandName.{CommandName}
use Rattle.script.specs.declared.problem.Problem.{Problem}
use Rattle.script.specs.declared.problem.Problem.TheVariants.{UnknownCommand}
use Rattle.script.specs.Names.{name_text, name_of}
use Rattle.script.specs.Words.{words, from_word, after_word, without_return}
use Rattle.script.specs.Fields.{◌>>=◌, seen}
use Rattle.script.specs.Orders.{Order, said}
use Rattle.script.specs.Lines.{order_of, command_of, parsed}
use Rattle.script.specs.Grammar.{Say, Says, AreSilent, SaysNothing}
use Rattle.script.proofs.GrammarLemmas.{bind_ok, ok_is}
use Rattle.script.proofs.NameLemmas.{is_named, name_of-name_text}
use Rattle.script.proofs.OrderLemmas.{no_comment, order_sound, order_complete}

named_by : (o : Option CommandName) (n : CommandName) → ok_or o UnknownCommand ≡ Ok n → o ≡ Some n
named_by None n e = cc
named_by (Some m) n e = cc

command_sound : (text : List ℕ) (ws : List (List ℕ)) (o : Order) → command_of text ws ≡ Ok (Some o) → Say text ws o
unfolding command_of
command_sound text [] o e = cc
command_sound text (first ∷ others) o e = by (eqb (get_or first 0 0) 35) e where
  by : (t : Bool) → cond t (Ok None) (ok_or (name_of first) UnknownCommand >>= λ name. order_of name text others >>= λ order. Ok (Some order)) ≡ Ok (Some o) → Say text (first ∷ others) o
  by true e = cc
  by false e =
      let n = bind_ok (ok_or (name_of first) UnknownCommand) (λ name. order_of name text others >>= λ order. Ok (Some order)) (Some o) e in
      let a = bind_ok (order_of n.0 text others) (λ order. Ok (Some order)) (Some o) n.2 in
      let some : Some a.0 ≡ Some o = ok_is (Some a.0) (Some o) (Ok (Some a.0)) refl a.2 in
      let same : a.0 ≡ o = cc in
      let named = is_named first n.0 (named_by (name_of first) n.0 n.1) in
      subst (λ (w : List ℕ). Say text (w ∷ others) o) named (order_sound n.0 text others o (a.1 ∙ ap Ok same))

named_complete : (n : CommandName) (text : List ℕ) (others : List (List ℕ)) (o : Order) → order_of n text others ≡ Ok o → command_of text (name_text n ∷ others) ≡ Ok (Some o)
unfolding command_of
named_complete n text others o e =
    let known = name_of-name_text n in
    let plain = no_comment (name_text n) n known in
    rw (plain, known, e) refl

command_complete : (text : List ℕ) (ws : List (List ℕ)) (o : Order) → Say text ws o → command_of text ws ≡ Ok (Some o)
command_complete text ws o h =
    let c = order_complete o text ws h in
    rw c.2 (named_complete c.0 text c.1 o c.3)

-- which words say nothing
silent_sound : (text : List ℕ) (ws : List (List ℕ)) → command_of text ws ≡ Ok None → AreSilent ws
unfolding command_of
silent_sound text [] e = tt
silent_sound text (first ∷ others) e = by (eqb (get_or first 0 0) 35) refl e where
  by : (t : Bool) → eqb (get_or first 0 0) 35 ≡ t → cond t (Ok None) (ok_or (name_of first) UnknownCommand >>= λ name. order_of name text others >>= λ order. Ok (Some order)) ≡ Ok None → get_or first 0 0 ≡ 35
  by true h e = eqb-true (get_or first 0 0) 35 h
  by false h e =
      let n = bind_ok (ok_or (name_of first) UnknownCommand) (λ name. order_of name text others >>= λ order. Ok (Some order)) None e in
      let a = bind_ok (order_of n.0 text others) (λ order. Ok (Some order)) None n.2 in
      let some : Some a.0 ≡ None = ok_is (Some a.0) None (Ok (Some a.0)) refl a.2 in
      cc

silent_complete : (text : List ℕ) (ws : List (List ℕ)) → AreSilent ws → command_of text ws ≡ Ok None
unfolding command_of
silent_complete text [] h = refl
silent_complete text (first ∷ others) h = rw h refl

-- what `parse` returns, by what is parsed

pub found_in : (line : List ℕ) (r : Result (Option Command) Problem) → seen (option_map said) r ≡ parsed line → IfOk r (λ c. IfSome c (λ c. Says line (said c)))
unfolding parsed Says
found_in line (Err e) h = tt
found_in line (Ok None) h = tt
found_in line (Ok (Some c)) h = let text = without_return line in command_sound (from_word (after_word (from_word text))) (words text) (said c) (sym h)

pub only_in : (line : List ℕ) (r : Result (Option Command) Problem) (o : Order) → seen (option_map said) r ≡ parsed line → Says line o → seen (option_map said) r ≡ Ok (Some o)
unfolding parsed Says
only_in line r o h s = let text = without_return line in h ∙ command_complete (from_word (after_word (from_word text))) (words text) o s

seen_none : (r : Result (Option Command) Problem) → seen (option_map said) r ≡ Ok None → r ≡ Ok None
seen_none (Ok None) e = refl
seen_none (Ok (Some c)) e = cc
seen_none (Err p) e = cc

pub nothing_in : (line : List ℕ) (r : Result (Option Command) Problem) → seen (option_map said) r ≡ parsed line → (r ≡ Ok None) ↔ SaysNothing line
unfolding parsed SaysNothing
nothing_in line r h =
    let text = without_return line in
    let behind = from_word (after_word (from_word text)) in
    (λ e. silent_sound behind (words text) (sym h ∙ ap (seen (option_map said)) e), λ s. seen_none r (h ∙ silent_complete behind (words text) s))
