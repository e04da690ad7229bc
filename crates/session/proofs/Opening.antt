-- At its default a session holds nothing but zeros.
use Rattle.std.proofs.Common.{◌≡◌, ℕ, List, false, replicate, sym, ◌∙◌, arith}
use Rattle.std.specs.Array.{AllOfLen}
use Rattle.std.proofs.lemmas.List.{ext_get_or, get_or-replicate, length-replicate}
use Rattle.machine.specs.declared.held.Machine.{Machine}
use Rattle.session.specs.Calls.{opened}

-- an array of zeros is so many times 0
all_zero : (xs : List ℕ) (n : ℕ) → AllOfLen (λ x. x ≡ 0) xs n → xs ≡ replicate n 0
all_zero xs n h = ext_get_or 0 xs (replicate n 0) (h.long ∙ sym (length-replicate n 0)) (λ i l. let k = h.long in h.at i 0 (omega arith) ∙ sym (get_or-replicate n i 0 0 (omega arith)))

pub default_opens : (m : Machine) → AllOfLen (λ x. x ≡ 0) m.cpu.registers 32 → m.cpu.pc ≡ 0 → m.cpu.flags.cy ≡ false → m.cpu.flags.ov ≡ false → m.cpu.flags.s ≡ false → m.cpu.flags.z ≡ false → m.completed ≡ 0 → m.read ≡ 0 → m.written ≡ 0 → m ≡ opened
default_opens m r p c o s z d u w = λ i. record {
  cpu = record { registers = all_zero _ _ r i; pc = p i; flags = record { cy = c i; ov = o i; s = s i; z = z i } };
  completed = d i;
  read = u i;
  written = w i;
}
