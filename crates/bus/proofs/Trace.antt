-- What holds of every program, by induction over it.
use Rattle.std.proofs.Common.{◌≡◌, ℕ, Bool, true, false, ◌||◌, eqb, List, [], ◌∷◌, ◌++◌, Some, None, Option, sym, refl, ap, ◌∙◌, subst, append_assoc, append-nil, arith}
use Rattle.std.proofs.lemmas.Bool.{or_right, or_left, or_parts, eq-eqb}
use Rattle.board.specs.declared.Right.{Right}
use Rattle.board.specs.declared.Right.TheVariants.{NoAccess, ReadOnly, ReadWrite}
use Rattle.board.specs.Meaning.{fetched, writable}
use Rattle.bus.specs.declared.line.ReadLine.{ReadLine}
use Rattle.bus.specs.Sheets.{names, All}
use Rattle.bus.specs.Program.{Program, give, refuse, fetch, ask, put, runs, World, Trail, Outcome, own_byte, fetching, asking, listed, with_line, with_byte}
use Rattle.bus.specs.Seen.{Extends, Grown}
use Rattle.bus.proofs.Lines.{names_append}

-- the address of a reads line
abbrev pub of_line : ReadLine → ℕ
of_line l = l.address

-- ---- a list that begins with another
pub extends_none : {X : Type 0} (xs : List X) → Extends xs xs
extends_none xs = ([], sym (append-nil xs))

pub extends_push : {X : Type 0} (xs : List X) (x : X) (ys : List X) → Extends (xs ++ (x ∷ [])) ys → Extends xs ys
extends_push xs x ys g = (x ∷ g.0, g.1 ∙ append_assoc xs (x ∷ []) g.0)

pub extends_trans : {X : Type 0} (xs ys zs : List X) → Extends xs ys → Extends ys zs → Extends xs zs
extends_trans xs ys zs g h = (g.0 ++ h.0, h.1 ∙ (ap (λ l. l ++ h.0) g.1 ∙ append_assoc xs g.0 h.0))

-- ---- what a step leaves only grows
pub grown_none : (t : Trail) → Grown t t
grown_none t = record { reads = extends_none t.reads; own = extends_none t.own }

pub grown_trans : (t u v : Trail) → Grown t u → Grown u v → Grown t v
grown_trans t u v g h = record { reads = extends_trans t.reads u.reads v.reads g.reads h.reads; own = extends_trans t.own u.own v.own g.own h.own }

grown_line : (a b : ℕ) (t u : Trail) → Grown (with_line a b t) u → Grown t u
grown_line a b t u g = record { reads = extends_push t.reads _ u.reads g.reads; own = g.own }

grown_byte : (a b : ℕ) (t u : Trail) → Grown (with_byte a b t) u → Grown t u
grown_byte a b t u g = record { reads = g.reads; own = extends_push t.own _ u.own g.own }

grow_fetch : {A : Type 0} (a : ℕ) (k : ℕ → Trail → Outcome A) → ((b : ℕ) (u : Trail) → Grown u (k b u).1) → (t : Trail) (s g : Option ℕ) (l : Bool) → Grown t (fetching a k t s g l).1
grow_fetch a k h t (Some b) g l = h b t
grow_fetch a k h t None None l = grown_none t
grow_fetch a k h t None (Some b) true = h b t
grow_fetch a k h t None (Some b) false = grown_line a b t _ (h b (with_line a b t))

grow_ask : {A : Type 0} (a : ℕ) (k : Trail → Outcome A) → ((u : Trail) → Grown u (k u).1) → (t : Trail) (r : Bool) → Grown t (asking a k t r).1
grow_ask a k h t true = h t
grow_ask a k h t false = grown_none t

pub grows : {A : Type 0} (p : Program A) (w : World) (t : Trail) → Grown t (runs p w t).1
unfolding runs
grows (give x) w t = grown_none t
grows (refuse e) w t = grown_none t
grows (fetch a k) w t = grow_fetch a (λ b u. runs (k b) w u) (λ b u. grows (k b) w u) t (own_byte a t) (fetched (w.rights a) (w.bytes a)) (listed a w t)
grows (ask a k) w t = grow_ask a (λ u. runs k w u) (λ u. grows k w u) t (writable (w.rights a))
grows (put a b k) w t = grown_byte a b t _ (grows k w (with_byte a b t))

-- ---- lines that name an address still do on a grown sheet
or_mono : (x x' y : Bool) → (x ≡ true → x' ≡ true) → (x || y) ≡ true → (x' || y) ≡ true
or_mono true x' y h e = or_left x' y (h refl)
or_mono false x' y h e = or_right x' y e

names_grown : (a : ℕ) (xs ys : List ReadLine) → Extends xs ys → names of_line a xs ≡ true → names of_line a ys ≡ true
names_grown a xs ys g e = ap (names of_line a) g.1 ∙ (names_append of_line a xs g.0 ∙ or_left _ _ e)

names_new : (a b : ℕ) (xs : List ReadLine) → names of_line a (xs ++ (record { address = a; byte = b } ∷ [])) ≡ true
names_new a b xs = names_append of_line a xs (record { address = a; byte = b } ∷ []) ∙ or_right (names of_line a xs) _ (or_left (eqb a a) false (eq-eqb a a refl))

-- a trail with the reads sheet of another
abbrev pub with_reads : List ReadLine → Trail → Trail
with_reads xs t = record { reads = xs; own = t.own }

listed_grown : (a : ℕ) (w : World) (t : Trail) (ys : List ReadLine) → Extends t.reads ys → listed a w t ≡ true → listed a w (with_reads ys t) ≡ true
listed_grown a w t ys g e = or_mono (names of_line a t.reads) (names of_line a ys) _ (names_grown a t.reads ys g) e

listed_new : (a b : ℕ) (w : World) (t : Trail) (ys : List ReadLine) → Extends (with_line a b t).reads ys → listed a w (with_reads ys t) ≡ true
listed_new a b w t ys g = or_left _ _ (names_grown a _ ys g (names_new a b t.reads))

-- ---- run once more with its own lines on the reads sheet, a program comes to the same
abbrev redo : {A : Type 0} → Outcome A → Trail → Trail
redo o t = with_reads o.1.reads t

again_fetch : {A : Type 0} (a : ℕ) (w : World) (k : ℕ → Trail → Outcome A) → ((b : ℕ) (u : Trail) → k b (redo (k b u) u) ≡ k b u) → ((b : ℕ) (u : Trail) → Grown u (k b u).1) → (t : Trail) (s g : Option ℕ) (l : Bool) → listed a w t ≡ l → fetching a k (redo (fetching a k t s g l) t) s g (listed a w (redo (fetching a k t s g l) t)) ≡ fetching a k t s g l
again_fetch a w k h m t (Some b) g l e = h b t
again_fetch a w k h m t None None l e = refl
again_fetch a w k h m t None (Some b) true e = ap (λ x. fetching a k (redo (k b t) t) None (Some b) x) (listed_grown a w t _ (m b t).reads e) ∙ h b t
again_fetch a w k h m t None (Some b) false e = ap (λ x. fetching a k (redo (k b (with_line a b t)) t) None (Some b) x) (listed_new a b w t _ (m b (with_line a b t)).reads) ∙ h b (with_line a b t)

again_ask : {A : Type 0} (a : ℕ) (k : Trail → Outcome A) → ((u : Trail) → k (redo (k u) u) ≡ k u) → (t : Trail) (r : Bool) → asking a k (redo (asking a k t r) t) r ≡ asking a k t r
again_ask a k h t true = h t
again_ask a k h t false = refl

pub again : {A : Type 0} (p : Program A) (w : World) (t : Trail) → runs p w (with_reads (runs p w t).1.reads t) ≡ runs p w t
unfolding runs
again (give x) w t = refl
again (refuse e) w t = refl
again (fetch a k) w t = again_fetch a w (λ b u. runs (k b) w u) (λ b u. again (k b) w u) (λ b u. grows (k b) w u) t (own_byte a t) (fetched (w.rights a) (w.bytes a)) (listed a w t) refl
again (ask a k) w t = again_ask a (λ u. runs k w u) (λ u. again k w u) t (writable (w.rights a))
again (put a b k) w t = again k w (with_byte a b t)

-- ---- on another board that holds the listed bytes, a program comes to the same
abbrev pub with_bytes : (ℕ → ℕ) → World → World
with_bytes f w = record { rights = w.rights; bytes = f; writes = w.writes }

-- f agrees with the board at each address that a line of the writes sheet or one of ys names
abbrev pub Agrees : (ℕ → ℕ) → World → List ReadLine → Type 0
Agrees f w ys = (a : ℕ) → (names of_line a ys || names (λ l. l.address) a w.writes) ≡ true → f a ≡ w.bytes a

still_none : (r : Right) (x y : ℕ) → fetched r x ≡ None → fetched r y ≡ None
still_none NoAccess x y e = refl
still_none ReadOnly x y e = let z : ◌≡◌ {A = ℕ} 0 1 = cc in absurd (omega arith)
still_none ReadWrite x y e = let z : ◌≡◌ {A = ℕ} 0 1 = cc in absurd (omega arith)

pub byte_is : (r : Right) (x b : ℕ) → fetched r x ≡ Some b → b ≡ x
byte_is NoAccess x b e = let z : ◌≡◌ {A = ℕ} 0 1 = cc in absurd (omega arith)
byte_is ReadOnly x b e = cc
byte_is ReadWrite x b e = cc

same_fetch : {A : Type 0} (f : ℕ → ℕ) (a : ℕ) (w : World) (k m : ℕ → Trail → Outcome A) → ((b : ℕ) (u : Trail) → Agrees f w (m b u).1.reads → k b u ≡ m b u) → ((b : ℕ) (u : Trail) → Grown u (m b u).1) → (t : Trail) (s g : Option ℕ) (l : Bool) → fetched (w.rights a) (w.bytes a) ≡ g → listed a w t ≡ l → Agrees f w (fetching a m t s g l).1.reads → fetching a k t s (fetched (w.rights a) (f a)) l ≡ fetching a m t s g l
same_fetch f a w k m h n t (Some b) g l e q j = h b t j
same_fetch f a w k m h n t None None l e q j = ap (λ g. fetching a k t None g l) (still_none (w.rights a) (w.bytes a) (f a) e)
same_fetch f a w k m h n t None (Some b) true e q j =
    let z = j a (listed_grown a w t _ (n b t).reads q) in
    ap (λ x. fetching a k t None (fetched (w.rights a) x) true) z ∙ (ap (λ g. fetching a k t None g true) e ∙ h b t j)
same_fetch f a w k m h n t None (Some b) false e q j =
    let z = j a (listed_new a b w t _ (n b (with_line a b t)).reads) in
    ap (λ x. fetching a k t None (fetched (w.rights a) x) false) z ∙ (ap (λ g. fetching a k t None g false) e ∙ h b (with_line a b t) j)

same_ask : {A : Type 0} (f : ℕ → ℕ) (a : ℕ) (w : World) (k m : Trail → Outcome A) → ((u : Trail) → Agrees f w (m u).1.reads → k u ≡ m u) → (t : Trail) (r : Bool) → Agrees f w (asking a m t r).1.reads → asking a k t r ≡ asking a m t r
same_ask f a w k m h t true j = h t j
same_ask f a w k m h t false j = refl

-- the theorem that carries equal replays
pub replays : {A : Type 0} (f : ℕ → ℕ) (p : Program A) (w : World) (t : Trail) → Agrees f w (runs p w t).1.reads → runs p (with_bytes f w) t ≡ runs p w t
unfolding runs
replays f (give x) w t j = refl
replays f (refuse e) w t j = refl
replays f (fetch a k) w t j = same_fetch f a w (λ b u. runs (k b) (with_bytes f w) u) (λ b u. runs (k b) w u) (λ b u. replays f (k b) w u) (λ b u. grows (k b) w u) t (own_byte a t) (fetched (w.rights a) (w.bytes a)) (listed a w t) refl refl j
replays f (ask a k) w t j = same_ask f a w (λ u. runs k (with_bytes f w) u) (λ u. runs k w u) (λ u. replays f k w u) t (writable (w.rights a)) j
replays f (put a b k) w t j = replays f k w (with_byte a b t) j

-- ---- each new line has the board's byte of an address that no writes line names
abbrev pub Fresh : (ReadLine → Type 0) → World → Type 0
Fresh P w = (a : ℕ) → names (λ l. l.address) a w.writes ≡ false → P (record { address = a; byte = w.bytes a })

pub all_push : {L : Type 0} (P : L → Type 0) (xs : List L) (x : L) → All P xs → P x → All P (xs ++ (x ∷ []))
all_push P [] x h p = (p, tt)
all_push P (y ∷ ys) x h p = (h.0, all_push P ys x h.1 p)

news_fetch : {A : Type 0} (P : ReadLine → Type 0) (a : ℕ) (w : World) → Fresh P w → (k : ℕ → Trail → Outcome A) → ((b : ℕ) (u : Trail) → All P u.reads → All P (k b u).1.reads) → (t : Trail) (s g : Option ℕ) (l : Bool) → fetched (w.rights a) (w.bytes a) ≡ g → listed a w t ≡ l → All P t.reads → All P (fetching a k t s g l).1.reads
news_fetch P a w n k h t (Some b) g l e q r = h b t r
news_fetch P a w n k h t None None l e q r = r
news_fetch P a w n k h t None (Some b) true e q r = h b t r
news_fetch P a w n k h t None (Some b) false e q r = h b (with_line a b t) (all_push P t.reads _ r (subst (λ z. P (record { address = a; byte = z })) (sym (byte_is (w.rights a) (w.bytes a) b e)) (n a (or_parts (names of_line a t.reads) _ q).1)))

news_ask : {A : Type 0} (P : ReadLine → Type 0) (a : ℕ) (k : Trail → Outcome A) → ((u : Trail) → All P u.reads → All P (k u).1.reads) → (t : Trail) (r : Bool) → All P t.reads → All P (asking a k t r).1.reads
news_ask P a k h t true r = h t r
news_ask P a k h t false r = r

pub news : {A : Type 0} (P : ReadLine → Type 0) (p : Program A) (w : World) (t : Trail) → Fresh P w → All P t.reads → All P (runs p w t).1.reads
unfolding runs
news P (give x) w t n r = r
news P (refuse e) w t n r = r
news P (fetch a k) w t n r = news_fetch P a w n (λ b u. runs (k b) w u) (λ b u. news P (k b) w u n) t (own_byte a t) (fetched (w.rights a) (w.bytes a)) (listed a w t) refl refl r
news P (ask a k) w t n r = news_ask P a (λ u. runs k w u) (λ u. news P k w u n) t (writable (w.rights a)) r
news P (put a b k) w t n r = news P k w (with_byte a b t) n r
