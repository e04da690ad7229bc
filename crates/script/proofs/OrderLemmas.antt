-- Which command a line says: what is read is in the grammar, and what is in the grammar is read.
use Rattle.std.proofs.Common.{◌≡◌, ◌≢◌, ℕ, ◌^◌, Bool, true, false, cond, eqb, get_or, List, [], ◌∷◌, ◌++◌, length, Some, Result, Ok, Err, bytes_eq, codes, refl, sym, ap, ◌∙◌, subst}
use Rattle.std.proofs.lemmas.List.{append-nil}
use Rattle.std.proofs.lemmas.Slice.Eq.{bytes_eq-Decides}
use Rattle.script.specs.declared.command_name.CommandName.{CommandName}
use Rattle.script.specs.declared.command_name.CommandName.TheVariants as names
use Rattle.script.specs.declared.problem.Problem.{Problem}
use Rattle.script.specs.declared.problem.Problem.TheVariants.{NumberTooLarge, ByteTooLarge, UnknownBoard}
use Rattle.script.specs.Names.{name_text, name_of}
use Rattle.script.specs.Words.{words}
use Rattle.script.specs.Fields.{◌>>=◌, word_in, number_at, byte_at, readings_at, contents_in, contents_at, end_at}
use Rattle.script.specs.Orders.{Bytes, Order, case, ram, rom, sensor, cut, store, peek, dump, sheets, open_session, preset, start, step, run, close, reg, show, reads, writes, list, report}
use Rattle.script.specs.Lines.{one_number, two_numbers, case_in, ram_in, rom_in, sensor_in, cut_in, board_in, store_in, order_of}
use Rattle.script.specs.Grammar.{SaysNumber, SayReadings, SaysBytes, Say}
use Rattle.script.proofs.NameLemmas.{is_named}
use Rattle.script.proofs.GrammarLemmas.{bind_ok, ok_is, end_sound, limited_sound, limited_complete, one_sound, one_complete, numbers_sound, numbers_complete, readings_sound, readings_complete, contents_sound, contents_complete}

-- and no name begins a comment: no command is named by a word that does
pub no_comment : (word : List ℕ) (n : CommandName) → name_of word ≡ Some n → eqb (get_or word 0 0) 35 ≡ false
no_comment word n e = sym (ap (λ (w : List ℕ). eqb (get_or w 0 0) 35) (is_named word n e)) ∙ by n where
  by : (n : CommandName) → eqb (get_or (name_text n) 0 0) 35 ≡ false
  by names.Case = refl
  by names.Board = refl
  by names.Store = refl
  by names.Peek = refl
  by names.Dump = refl
  by names.Sheets = refl
  by names.Open = refl
  by names.Preset = refl
  by names.Start = refl
  by names.Step = refl
  by names.Run = refl
  by names.Close = refl
  by names.Reg = refl
  by names.Show = refl
  by names.Reads = refl
  by names.Writes = refl
  by names.List = refl
  by names.Report = refl

-- what is read is in the grammar

alone : (name : CommandName) (ws : List (List ℕ)) (order o : Order) (text : List ℕ) → ((r : List (List ℕ)) → r ≡ [] → Say text (name_text name ∷ r) order) → (end_at name ws >>= λ end. Ok order) ≡ Ok o → Say text (name_text name ∷ ws) o
alone name ws order o text h e =
    let a = bind_ok (end_at name ws) (λ end. Ok order) o e in
    subst (λ k. Say text (name_text name ∷ ws) k) (ok_is order o (Ok order) refl a.2) (h ws (end_sound name ws a.0 a.1))

one : (name : CommandName) (ws : List (List ℕ)) (make : ℕ → Order) (o : Order) (text : List ℕ) → ((n : ℕ) (v : List ℕ) (r : List (List ℕ)) → r ≡ v ∷ [] → SaysNumber (2 ^ 32) v n → Say text (name_text name ∷ r) (make n))
    → (one_number name ws >>= λ n. Ok (make n)) ≡ Ok o → Say text (name_text name ∷ ws) o
one name ws make o text h e =
    let a = bind_ok (one_number name ws) (λ n. Ok (make n)) o e in
    let v = one_sound name ws a.0 a.1 in
    subst (λ k. Say text (name_text name ∷ ws) k) (ok_is (make a.0) o (Ok (make a.0)) refl a.2) (h a.0 v.0 ws v.1 v.2)

two : (name : CommandName) (ws : List (List ℕ)) (make : ℕ → ℕ → Order) (o : Order) (text : List ℕ)
    → ((m n : ℕ) (v w : List ℕ) (r : List (List ℕ)) → r ≡ v ∷ w ∷ [] → SaysNumber (2 ^ 32) v m → SaysNumber (2 ^ 32) w n → Say text (name_text name ∷ r) (make m n))
    → (two_numbers name ws >>= λ n. Ok (make n.0 n.1)) ≡ Ok o → Say text (name_text name ∷ ws) o
two name ws make o text h e =
    let a = bind_ok (two_numbers name ws) (λ n. Ok (make n.0 n.1)) o e in
    let v = numbers_sound name ws a.0.0 a.0.1 a.1 in
    subst (λ k. Say text (name_text name ∷ ws) k) (ok_is (make a.0.0 a.0.1) o (Ok (make a.0.0 a.0.1)) refl a.2) (h a.0.0 a.0.1 v.0 v.1 ws v.2 v.3 v.4)

behind : (w : List ℕ) (r s : List (List ℕ)) → r ≡ s → w ∷ r ≡ w ∷ s
behind w r s e = ap (λ (x : List (List ℕ)). w ∷ x) e

contents_at_sound : (name : CommandName) (ws : List (List ℕ)) (b : Bytes) (rest : List (List ℕ)) → contents_at name ws ≡ Ok (b, rest) → (w : List ℕ) × (ws ≡ w ∷ rest) × SaysBytes w b
unfolding contents_at word_in
contents_at_sound name [] b rest e = cc
contents_at_sound name (w ∷ ws) b rest e =
    let a = bind_ok (contents_in w) (λ c. let pair : Bytes × List (List ℕ) = (c, ws) in Ok pair) (b, rest) e in
    let same = ok_is (a.0, ws) (b, rest) (Ok (a.0, ws)) refl a.2 in
    let one : a.0 ≡ b = ap (λ x. x.0) same in
    let left : ws ≡ rest = ap (λ x. x.1) same in
    (w, behind w ws rest left, subst (λ k. SaysBytes w k) one (contents_sound w a.0 a.1))

abbrev bytes_of_board : (ℕ → Bytes → Order) → ℕ → List (List ℕ) → Result Order Problem
bytes_of_board make base ws = contents_at names.Board ws >>= λ b. end_at names.Board b.1 >>= λ end. Ok (make base b.0)

bytes_board : (make : ℕ → Bytes → Order) (ws : List (List ℕ)) (o : Order) → (number_at names.Board ws >>= λ base. bytes_of_board make base.0 base.1) ≡ Ok o
    → (base : ℕ) × (b : Bytes) × (v w : List ℕ) × (ws ≡ v ∷ w ∷ []) × SaysNumber (2 ^ 32) v base × SaysBytes w b × (make base b ≡ o)
unfolding number_at
bytes_board make ws o e =
    let n = bind_ok (number_at names.Board ws) (λ base. bytes_of_board make base.0 base.1) o e in
    let b = bind_ok (contents_at names.Board n.0.1) (λ b. end_at names.Board b.1 >>= λ end. Ok (make n.0.0 b.0)) o n.2 in
    let d = bind_ok (end_at names.Board b.0.1) (λ end. Ok (make n.0.0 b.0.0)) o b.2 in
    let v = limited_sound (2 ^ 32) NumberTooLarge names.Board ws n.0.0 n.0.1 n.1 in
    let w = contents_at_sound names.Board n.0.1 b.0.0 b.0.1 b.1 in
    let none = end_sound names.Board b.0.1 d.0 d.1 in
    (n.0.0, b.0.0, v.0, w.0, v.1 ∙ behind v.0 n.0.1 (w.0 ∷ []) (w.1 ∙ behind w.0 b.0.1 [] none), v.2, w.2, ok_is (make n.0.0 b.0.0) o (Ok (make n.0.0 b.0.0)) refl d.2)

kind_behind : (kind : List ℕ) (r s : List (List ℕ)) → r ≡ s → codes "board" ∷ kind ∷ r ≡ codes "board" ∷ kind ∷ s
kind_behind kind r s e = ap (λ (x : List (List ℕ)). codes "board" ∷ kind ∷ x) e

ram_sound : (text : List ℕ) (ws : List (List ℕ)) (o : Order) → ram_in ws ≡ Ok o → Say text (codes "board" ∷ codes "ram" ∷ ws) o
unfolding ram_in
ram_sound text ws o e =
    let b = bytes_board ram ws o e in
    subst (λ k. Say text (codes "board" ∷ codes "ram" ∷ ws) k) b.7 (b.2, b.3, kind_behind (codes "ram") ws (b.2 ∷ b.3 ∷ []) b.4, b.5, b.6)

rom_sound : (text : List ℕ) (ws : List (List ℕ)) (o : Order) → rom_in ws ≡ Ok o → Say text (codes "board" ∷ codes "rom" ∷ ws) o
unfolding rom_in
rom_sound text ws o e =
    let b = bytes_board rom ws o e in
    subst (λ k. Say text (codes "board" ∷ codes "rom" ∷ ws) k) b.7 (b.2, b.3, kind_behind (codes "rom") ws (b.2 ∷ b.3 ∷ []) b.4, b.5, b.6)

sensor_sound : (text : List ℕ) (ws : List (List ℕ)) (o : Order) → sensor_in ws ≡ Ok o → Say text (codes "board" ∷ codes "sensor" ∷ ws) o
unfolding sensor_in number_at
sensor_sound text ws o e =
    let n = bind_ok (number_at names.Board ws) (λ base. readings_at 16 names.Board base.1 >>= λ r. end_at names.Board r.1 >>= λ end. Ok (sensor base.0 r.0)) o e in
    let r = bind_ok (readings_at 16 names.Board n.0.1) (λ r. end_at names.Board r.1 >>= λ end. Ok (sensor n.0.0 r.0)) o n.2 in
    let d = bind_ok (end_at names.Board r.0.1) (λ end. Ok (sensor n.0.0 r.0.0)) o r.2 in
    let v = limited_sound (2 ^ 32) NumberTooLarge names.Board ws n.0.0 n.0.1 n.1 in
    let rs = readings_sound 16 names.Board n.0.1 r.0.0 r.0.1 r.1 in
    let none = end_sound names.Board r.0.1 d.0 d.1 in
    let all : n.0.1 ≡ rs.0 = rs.1 ∙ ap (λ (x : List (List ℕ)). rs.0 ++ x) none ∙ append-nil rs.0 in
    subst (λ k. Say text (codes "board" ∷ codes "sensor" ∷ ws) k) (ok_is (sensor n.0.0 r.0.0) o (Ok (sensor n.0.0 r.0.0)) refl d.2)
    (v.0, rs.0, kind_behind (codes "sensor") ws (v.0 ∷ rs.0) (v.1 ∙ behind v.0 n.0.1 rs.0 all), v.2, rs.2, rs.3)

cut_sound : (text : List ℕ) (ws : List (List ℕ)) (o : Order) → cut_in ws ≡ Ok o → Say text (codes "board" ∷ codes "cut" ∷ ws) o
unfolding cut_in
cut_sound text ws o e =
    let n = bind_ok (one_number names.Board ws) (λ at. Ok (cut at)) o e in
    let v = one_sound names.Board ws n.0 n.1 in
    subst (λ k. Say text (codes "board" ∷ codes "cut" ∷ ws) k) (ok_is (cut n.0) o (Ok (cut n.0)) refl n.2) (v.0, kind_behind (codes "cut") ws (v.0 ∷ []) v.1, v.2)

of_kind : (text kind known : List ℕ) (ws : List (List ℕ)) (o : Order) → bytes_eq kind known ≡ true → Say text (codes "board" ∷ known ∷ ws) o → Say text (codes "board" ∷ kind ∷ ws) o
of_kind text kind known ws o e h = subst (λ (k : List ℕ). Say text (codes "board" ∷ k ∷ ws) o) (sym ((bytes_eq-Decides kind known).0 e)) h

board_sound : (text : List ℕ) (ws : List (List ℕ)) (o : Order) → board_in ws ≡ Ok o → Say text (codes "board" ∷ ws) o
unfolding board_in word_in
board_sound text [] o e = cc
board_sound text (kind ∷ ws) o e = by (bytes_eq kind (codes "ram")) (bytes_eq kind (codes "rom")) (bytes_eq kind (codes "sensor")) (bytes_eq kind (codes "cut")) refl refl refl refl e where
  by : (a b c d : Bool) → bytes_eq kind (codes "ram") ≡ a → bytes_eq kind (codes "rom") ≡ b → bytes_eq kind (codes "sensor") ≡ c → bytes_eq kind (codes "cut") ≡ d
      → cond a (ram_in ws) (cond b (rom_in ws) (cond c (sensor_in ws) (cond d (cut_in ws) (Err UnknownBoard)))) ≡ Ok o → Say text (codes "board" ∷ kind ∷ ws) o
  by true b c d p q r s e = of_kind text kind (codes "ram") ws o p (ram_sound text ws o e)
  by false true c d p q r s e = of_kind text kind (codes "rom") ws o q (rom_sound text ws o e)
  by false false true d p q r s e = of_kind text kind (codes "sensor") ws o r (sensor_sound text ws o e)
  by false false false true p q r s e = of_kind text kind (codes "cut") ws o s (cut_sound text ws o e)
  by false false false false p q r s e = cc

store_sound : (text : List ℕ) (ws : List (List ℕ)) (o : Order) → store_in ws ≡ Ok o → Say text (codes "store" ∷ ws) o
unfolding store_in number_at byte_at
store_sound text ws o e =
    let n = bind_ok (number_at names.Store ws) (λ m. byte_at names.Store m.1 >>= λ n. end_at names.Store n.1 >>= λ end. Ok (store m.0 n.0)) o e in
    let b = bind_ok (byte_at names.Store n.0.1) (λ b. end_at names.Store b.1 >>= λ end. Ok (store n.0.0 b.0)) o n.2 in
    let d = bind_ok (end_at names.Store b.0.1) (λ end. Ok (store n.0.0 b.0.0)) o b.2 in
    let v = limited_sound (2 ^ 32) NumberTooLarge names.Store ws n.0.0 n.0.1 n.1 in
    let w = limited_sound (2 ^ 8) ByteTooLarge names.Store n.0.1 b.0.0 b.0.1 b.1 in
    let none = end_sound names.Store b.0.1 d.0 d.1 in
    subst (λ k. Say text (codes "store" ∷ ws) k) (ok_is (store n.0.0 b.0.0) o (Ok (store n.0.0 b.0.0)) refl d.2)
    (v.0, w.0, behind (codes "store") ws (v.0 ∷ w.0 ∷ []) (v.1 ∙ behind v.0 n.0.1 (w.0 ∷ []) (w.1 ∙ behind w.0 b.0.1 [] none)), v.2, w.2)

case_sound : (text : List ℕ) (ws : List (List ℕ)) (o : Order) → case_in text ≡ Ok o → Say text (codes "case" ∷ ws) o
unfolding case_in
case_sound [] ws o e = cc
case_sound (b ∷ bs) ws o e = subst (λ k. Say (b ∷ bs) (codes "case" ∷ ws) k) (ok_is (case (b ∷ bs)) o (Ok (case (b ∷ bs))) refl e) (ws, refl, refl, λ none. cc)

pub order_sound : (name : CommandName) (text : List ℕ) (ws : List (List ℕ)) (o : Order) → order_of name text ws ≡ Ok o → Say text (name_text name ∷ ws) o
unfolding order_of
order_sound names.Case text ws o e = case_sound text ws o e
order_sound names.Board text ws o e = board_sound text ws o e
order_sound names.Store text ws o e = store_sound text ws o e
order_sound names.Peek text ws o e = one names.Peek ws peek o text (λ n v r d h. (v, behind (codes "peek") r (v ∷ []) d, h)) e
order_sound names.Dump text ws o e = two names.Dump ws dump o text (λ m n v w r d g h. (v, w, behind (codes "dump") r (v ∷ w ∷ []) d, g, h)) e
order_sound names.Sheets text ws o e = two names.Sheets ws sheets o text (λ m n v w r d g h. (v, w, behind (codes "sheets") r (v ∷ w ∷ []) d, g, h)) e
order_sound names.Open text ws o e = alone names.Open ws open_session o text (λ r d. behind (codes "open") r [] d) e
order_sound names.Preset text ws o e = two names.Preset ws preset o text (λ m n v w r d g h. (v, w, behind (codes "preset") r (v ∷ w ∷ []) d, g, h)) e
order_sound names.Start text ws o e = one names.Start ws start o text (λ n v r d h. (v, behind (codes "start") r (v ∷ []) d, h)) e
order_sound names.Step text ws o e = alone names.Step ws step o text (λ r d. behind (codes "step") r [] d) e
order_sound names.Run text ws o e = one names.Run ws run o text (λ n v r d h. (v, behind (codes "run") r (v ∷ []) d, h)) e
order_sound names.Close text ws o e = alone names.Close ws close o text (λ r d. behind (codes "close") r [] d) e
order_sound names.Reg text ws o e = one names.Reg ws reg o text (λ n v r d h. (v, behind (codes "reg") r (v ∷ []) d, h)) e
order_sound names.Show text ws o e = alone names.Show ws show o text (λ r d. behind (codes "show") r [] d) e
order_sound names.Reads text ws o e = alone names.Reads ws reads o text (λ r d. behind (codes "reads") r [] d) e
order_sound names.Writes text ws o e = alone names.Writes ws writes o text (λ r d. behind (codes "writes") r [] d) e
order_sound names.List text ws o e = two names.List ws list o text (λ m n v w r d g h. (v, w, behind (codes "list") r (v ∷ w ∷ []) d, g, h)) e
order_sound names.Report text ws o e = alone names.Report ws report o text (λ r d. behind (codes "report") r [] d) e

-- what is in the grammar is read

contents_at_complete : (name : CommandName) (w : List ℕ) (b : Bytes) (rest : List (List ℕ)) → SaysBytes w b → contents_at name (w ∷ rest) ≡ Ok (b, rest)
unfolding contents_at word_in
contents_at_complete name w b rest h = rw (contents_complete w b h) refl

made_bytes : (make : ℕ → Bytes → Order) (v w : List ℕ) (base : ℕ) (b : Bytes) → SaysNumber (2 ^ 32) v base → SaysBytes w b → (number_at names.Board (v ∷ w ∷ []) >>= λ base. bytes_of_board make base.0 base.1) ≡ Ok (make base b)
unfolding number_at end_at
made_bytes make v w base b g h =
    let one = limited_complete (2 ^ 32) NumberTooLarge names.Board v base (w ∷ []) g in
    let two = contents_at_complete names.Board w b [] h in
    rw (one, two) refl

ram_complete : (v w : List ℕ) (base : ℕ) (b : Bytes) → SaysNumber (2 ^ 32) v base → SaysBytes w b → ram_in (v ∷ w ∷ []) ≡ Ok (ram base b)
unfolding ram_in
ram_complete v w base b g h = made_bytes ram v w base b g h

rom_complete : (v w : List ℕ) (base : ℕ) (b : Bytes) → SaysNumber (2 ^ 32) v base → SaysBytes w b → rom_in (v ∷ w ∷ []) ≡ Ok (rom base b)
unfolding rom_in
rom_complete v w base b g h = made_bytes rom v w base b g h

sensor_complete : (v : List ℕ) (rs : List (List ℕ)) (base : ℕ) (ns : List ℕ) → SaysNumber (2 ^ 32) v base → SayReadings rs ns → length ns ≡ 16 → sensor_in (v ∷ rs) ≡ Ok (sensor base ns)
unfolding sensor_in number_at end_at
sensor_complete v rs base ns g h e =
    let one = limited_complete (2 ^ 32) NumberTooLarge names.Board v base rs g in
    let all : readings_at (length ns) names.Board rs ≡ Ok (ns, []) = subst (λ (x : List (List ℕ)). readings_at (length ns) names.Board x ≡ Ok (ns, [])) (append-nil rs) (readings_complete names.Board rs ns [] h) in
    let sixteen : readings_at 16 names.Board rs ≡ Ok (ns, []) = subst (λ (k : ℕ). readings_at k names.Board rs ≡ Ok (ns, [])) e all in
    rw (one, sixteen) refl

cut_complete : (v : List ℕ) (at : ℕ) → SaysNumber (2 ^ 32) v at → cut_in (v ∷ []) ≡ Ok (cut at)
unfolding cut_in
cut_complete v at g = rw (one_complete names.Board v at g) refl

-- behind `board`, the word for a kind says which
kinds : (ws : List (List ℕ)) → (board_in (codes "ram" ∷ ws) ≡ ram_in ws) × (board_in (codes "rom" ∷ ws) ≡ rom_in ws) × (board_in (codes "sensor" ∷ ws) ≡ sensor_in ws) × (board_in (codes "cut" ∷ ws) ≡ cut_in ws)
unfolding board_in word_in
kinds ws = (refl, refl, refl, refl)

store_complete : (v w : List ℕ) (m n : ℕ) → SaysNumber (2 ^ 32) v m → SaysNumber (2 ^ 8) w n → store_in (v ∷ w ∷ []) ≡ Ok (store m n)
unfolding store_in number_at byte_at end_at
store_complete v w m n g h =
    let a = limited_complete (2 ^ 32) NumberTooLarge names.Store v m (w ∷ []) g in
    let b = limited_complete (2 ^ 8) ByteTooLarge names.Store w n [] h in
    rw (a, b) refl

case_complete : (text words : List ℕ) → words ≡ text → text ≢ [] → case_in text ≡ Ok (case words)
unfolding case_in
case_complete [] words e ne = absurd (ne refl)
case_complete (b ∷ bs) words e ne = rw e refl

-- an order in the grammar, and the name that it is read by
abbrev pub IsRead : Order → List ℕ → List (List ℕ) → Type 0
IsRead o text ws = (name : CommandName) × (others : List (List ℕ)) × (ws ≡ name_text name ∷ others) × (order_of name text others ≡ Ok o)

pub order_complete : (o : Order) (text : List ℕ) (ws : List (List ℕ)) → Say text ws o → IsRead o text ws
unfolding order_of end_at
order_complete (case words) text ws h = (names.Case, h.0, h.1, case_complete text words h.2 h.3)
order_complete (ram base b) text ws h = (names.Board, codes "ram" ∷ h.0 ∷ h.1 ∷ [], h.2, (kinds (h.0 ∷ h.1 ∷ [])).0 ∙ ram_complete h.0 h.1 base b h.3 h.4)
order_complete (rom base b) text ws h = (names.Board, codes "rom" ∷ h.0 ∷ h.1 ∷ [], h.2, (kinds (h.0 ∷ h.1 ∷ [])).1 ∙ rom_complete h.0 h.1 base b h.3 h.4)
order_complete (sensor base ns) text ws h = (names.Board, codes "sensor" ∷ h.0 ∷ h.1, h.2, (kinds (h.0 ∷ h.1)).2 ∙ sensor_complete h.0 h.1 base ns h.3 h.4 h.5)
order_complete (cut at) text ws h = (names.Board, codes "cut" ∷ h.0 ∷ [], h.1, (kinds (h.0 ∷ [])).3 ∙ cut_complete h.0 at h.2)
order_complete (store m n) text ws h = (names.Store, h.0 ∷ h.1 ∷ [], h.2, store_complete h.0 h.1 m n h.3 h.4)
order_complete (peek n) text ws h = (names.Peek, h.0 ∷ [], h.1, rw (one_complete names.Peek h.0 n h.2) refl)
order_complete (dump m n) text ws h = (names.Dump, h.0 ∷ h.1 ∷ [], h.2, rw (numbers_complete names.Dump h.0 h.1 m n h.3 h.4) refl)
order_complete (sheets m n) text ws h = (names.Sheets, h.0 ∷ h.1 ∷ [], h.2, rw (numbers_complete names.Sheets h.0 h.1 m n h.3 h.4) refl)
order_complete open_session text ws h = (names.Open, [], h, refl)
order_complete (preset m n) text ws h = (names.Preset, h.0 ∷ h.1 ∷ [], h.2, rw (numbers_complete names.Preset h.0 h.1 m n h.3 h.4) refl)
order_complete (start n) text ws h = (names.Start, h.0 ∷ [], h.1, rw (one_complete names.Start h.0 n h.2) refl)
order_complete step text ws h = (names.Step, [], h, refl)
order_complete (run n) text ws h = (names.Run, h.0 ∷ [], h.1, rw (one_complete names.Run h.0 n h.2) refl)
order_complete close text ws h = (names.Close, [], h, refl)
order_complete (reg n) text ws h = (names.Reg, h.0 ∷ [], h.1, rw (one_complete names.Reg h.0 n h.2) refl)
order_complete show text ws h = (names.Show, [], h, refl)
order_complete reads text ws h = (names.Reads, [], h, refl)
order_complete writes text ws h = (names.Writes, [], h, refl)
order_complete (list m n) text ws h = (names.List, h.0 ∷ h.1 ∷ [], h.2, rw (numbers_complete names.List h.0 h.1 m n h.3 h.4) refl)
order_complete report text ws h = (names.Report, [], h, refl)
