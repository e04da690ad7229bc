use Rattle.std.proofs.Common.{◌≡◌, ℕ, ◌+◌, ◌^◌, ◌<◌, cond, eqb, [], ◌∷◌, ◌++◌, length, set, sym, ap, subst, ◌∙◌, rules}
use Rattle.std.proofs.lemmas.Bool.{eq-eqb, ne_eqb}
use Rattle.bus.specs.Buffer.{buffered, joins}
use Rattle.bus.specs.Form.{OneForm}
use Rattle.bus.proofs.Buffers.{form_push, one_run_joins, join_room, joined_there}
use Rattle.bus.proofs.buffer.StoreBuffer.put.Goals as goal
use Rattle.bus.proofs.buffer.StoreBuffer.put.Goals.{then-self-eq0, else-self-eq0}

pub returns-then-not-may_join-clause-joined : goal.returns-then-not-may_join-clause-joined
returns-then-not-may_join-clause-joined c = one_run_joins c.args.self.now c.args.address c.args.byte

pub bounds-self-inside-self-inside : goal.bounds-self-inside-self-inside
bounds-self-inside-self-inside c =
    let s = c.self.inside in
    let a = c.args.address in
    join_room s.base s.len a s.bytes (search rules) (ap (λ cs. joins cs a) c.self.view_is ∙ sym c.if-not-may_join.ensures)

pub invariant_of-self : goal.invariant_of-self
invariant_of-self c =
    let s = c.self.inside in
    let a = c.args.address in
    let room = join_room s.base s.len a s.bytes (search rules) (ap (λ cs. joins cs a) c.self.view_is ∙ sym c.if-not-may_join.ensures) in
    let there = λ (base : ℕ) (l : base < 2 ^ 32). form_push s.base base s.len c.args.byte s.bytes l room c.self.invariant in
    elim c.if-self-eq0.branch [
      | then-self-eq0 w ↦ subst (λ u. OneForm u.base (u.len + 1) u.bytes) (sym w.self-inside-is) (there a (search rules))
      | else-self-eq0 w ↦ subst (λ u. OneForm u.base (u.len + 1) u.bytes) (sym w.self-inside-is) (there s.base c.self.invariant.low)
    ]

pub returns-clause-after : goal.returns-clause-after
returns-clause-after c =
    let s = c.self.inside in
    let a = c.args.address in
    let b = c.args.byte in
    let j = ap (λ cs. joins cs a) c.self.view_is ∙ sym c.if-not-may_join.ensures in
    let room = join_room s.base s.len a s.bytes (search rules) j in
    let few : s.len < length s.bytes = search rules in
    let e : buffered c.if-self-eq0.self-inside.base (c.if-self-eq0.self-inside.len + 1) c.if-self-eq0.self-inside.bytes ≡ buffered (cond (eqb s.len 0) a s.base) (s.len + 1) (set s.bytes s.len b) =
    elim c.if-self-eq0.branch [
      | then-self-eq0 w ↦ ap (λ u. buffered u.base (u.len + 1) u.bytes) w.self-inside-is ∙ ap (λ t. buffered (cond t a s.base) (s.len + 1) (set s.bytes s.len b)) (sym (eq-eqb s.len 0 w.if-self-eq0.true))
      | else-self-eq0 w ↦ ap (λ u. buffered u.base (u.len + 1) u.bytes) w.self-inside-is ∙ ap (λ t. buffered (cond t a s.base) (s.len + 1) (set s.bytes s.len b)) (sym (ne_eqb s.len 0 w.if-self-eq0.false))
    ]
    in
    e ∙ (joined_there s.base s.len a b s.bytes (search rules) (search rules) few j
    ∙ (ap (λ cs. cs ++ ((a, b) ∷ [])) c.self.view_is ∙ ap (λ t. cond t (c.args.self.now ++ ((a, b) ∷ [])) c.args.self.now) c.if-not-may_join.ensures))
