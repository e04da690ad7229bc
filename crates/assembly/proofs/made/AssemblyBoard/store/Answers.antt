use Rattle.std.proofs.Common.{◌≡◌, ◌-◌, suc, ap, sym, ◌∙◌, arith}
use Rattle.board.specs.Meaning.{writable}
use Rattle.assembly.specs.Banks.{bank_meaning}
use Rattle.assembly.specs.Joints.{passed}
use Rattle.assembly.proofs.Stores.{store_first, store_at, answering_first, answering_at, stores_by, stores_rights, stores_bytes}
use Rattle.assembly.proofs.made.AssemblyBoard.store.Goals as goal

pub returns-then-passed-eq0-clause-answer : goal.returns-then-passed-eq0-clause-answer
returns-then-passed-eq0-clause-answer c =
    let none = sym c.passed-passed.ensures.number ∙ c.if-passed-eq0.true in
    c.store.ensures.answer ∙ ap (λ b. writable ((bank_meaning b).rights c.args.address)) (sym (answering_first c.args.address c.args.self.now.first c.args.self.now.joints.items none))

pub returns-then-passed-eq0-clause-rights : goal.returns-then-passed-eq0-clause-rights
returns-then-passed-eq0-clause-rights c =
    let none = sym c.passed-passed.ensures.number ∙ c.if-passed-eq0.true in
    stores_rights _ _ _ _ (store_first c.args.address c.args.byte c.args.self.now.first c.store.new.self c.args.self.now.joints.items none (stores_by _ _ _ _ c.store.ensures.rights c.store.ensures.bytes))

pub returns-then-passed-eq0-clause-bytes : goal.returns-then-passed-eq0-clause-bytes
returns-then-passed-eq0-clause-bytes c =
    let none = sym c.passed-passed.ensures.number ∙ c.if-passed-eq0.true in
    stores_bytes _ _ _ _ (store_first c.args.address c.args.byte c.args.self.now.first c.store.new.self c.args.self.now.joints.items none (stores_by _ _ _ _ c.store.ensures.rights c.store.ensures.bytes))

pub returns-else-passed-eq0-clause-answer : goal.returns-else-passed-eq0-clause-answer
returns-else-passed-eq0-clause-answer c =
    let some : passed c.args.address c.args.self.now.joints.items ≡ suc (c.passed-passed.result - 1) = omega (arith, c.passed-passed.ensures.number, c.if-passed-eq0.false) in
    c.store-else-passed-eq0.ensures.answer ∙ ap (λ b. writable ((bank_meaning b).rights c.args.address)) (sym (answering_at c.args.address c.args.self.now.first c.args.self.now.joints.items _ _ some c.index_mut.ensures.value))

pub returns-else-passed-eq0-clause-rights : goal.returns-else-passed-eq0-clause-rights
returns-else-passed-eq0-clause-rights c =
    let some : passed c.args.address c.args.self.now.joints.items ≡ suc (c.passed-passed.result - 1) = omega (arith, c.passed-passed.ensures.number, c.if-passed-eq0.false) in
    let at_bank = stores_by c.args.address c.args.byte _ _ c.store-else-passed-eq0.ensures.rights c.store-else-passed-eq0.ensures.bytes in
    stores_rights _ _ _ _ (store_at c.args.address c.args.byte c.args.self.now.first c.store-else-passed-eq0.new.self c.args.self.now.joints.items _ _ some c.index_mut.ensures.value at_bank)

pub returns-else-passed-eq0-clause-bytes : goal.returns-else-passed-eq0-clause-bytes
returns-else-passed-eq0-clause-bytes c =
    let some : passed c.args.address c.args.self.now.joints.items ≡ suc (c.passed-passed.result - 1) = omega (arith, c.passed-passed.ensures.number, c.if-passed-eq0.false) in
    let at_bank = stores_by c.args.address c.args.byte _ _ c.store-else-passed-eq0.ensures.rights c.store-else-passed-eq0.ensures.bytes in
    stores_bytes _ _ _ _ (store_at c.args.address c.args.byte c.args.self.now.first c.store-else-passed-eq0.new.self c.args.self.now.joints.items _ _ some c.index_mut.ensures.value at_bank)
