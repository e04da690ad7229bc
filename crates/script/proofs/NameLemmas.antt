-- Commands by name.
use Rattle.std.proofs.Common.{◌≡◌, ℕ, Bool, true, false, cond, List, [], ◌∷◌, Option, Some, None, IfSome, bytes_eq, refl, sym, ap, ◌∙◌}
use Rattle.std.proofs.lemmas.Slice.Eq.{bytes_eq-Decides}
use Rattle.std.specs.Prelude.{find}
use Rattle.script.specs.declared.command_name.CommandName.{CommandName}
use Rattle.script.specs.declared.command_name.CommandName.TheVariants as names
use Rattle.script.specs.declared.command_name.TheConstants.CommandName.{ALL}
use Rattle.script.specs.Names.{name_text, name_of}

found : (test : CommandName → Bool) (ns : List CommandName) (n : CommandName) → find test ns ≡ Some n → test n ≡ true
found test [] n e = cc
found test (m ∷ ns) n e = by (test m) refl (found test ns n) e where
  by : (t : Bool) → test m ≡ t → (find test ns ≡ Some n → test n ≡ true) → cond t (Some m) (find test ns) ≡ Some n → test n ≡ true
  by true h more e = let same : m ≡ n = cc in ap test (sym same) ∙ h
  by false h more e = more e

pub is_named : (word : List ℕ) (n : CommandName) → name_of word ≡ Some n → name_text n ≡ word
unfolding name_of
is_named word n e = (bytes_eq-Decides (name_text n) word).0 (found (λ m. bytes_eq (name_text m) word) ALL n e)

-- each name is the name of its command
pub name_of-name_text : (n : CommandName) → name_of (name_text n) ≡ Some n
unfolding name_of
name_of-name_text names.Case = refl
name_of-name_text names.Board = refl
name_of-name_text names.Store = refl
name_of-name_text names.Peek = refl
name_of-name_text names.Dump = refl
name_of-name_text names.Sheets = refl
name_of-name_text names.Open = refl
name_of-name_text names.Preset = refl
name_of-name_text names.Start = refl
name_of-name_text names.Step = refl
name_of-name_text names.Run = refl
name_of-name_text names.Close = refl
name_of-name_text names.Reg = refl
name_of-name_text names.Show = refl
name_of-name_text names.Reads = refl
name_of-name_text names.Writes = refl
name_of-name_text names.List = refl
name_of-name_text names.Report = refl

pub named_in : (word : List ℕ) (r : Option CommandName) → r ≡ name_of word → IfSome r (λ n. name_text n ≡ word)
named_in word None e = tt
named_in word (Some n) e = is_named word n (sym e)

pub only_named : (word : List ℕ) (r : Option CommandName) (n : CommandName) → r ≡ name_of word → name_text n ≡ word → r ≡ Some n
only_named word r n e h = e ∙ ap name_of (sym h) ∙ name_of-name_text n
