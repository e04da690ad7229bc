-- One step: the instruction at PC is decoded and carried out.
use Rattle.bus.specs.Program.{Program, ◌>>=◌}
use Rattle.instruction.specs.Formats.{decode}
use Rattle.processor.specs.declared.cpu.Cpu.{Cpu}
use Rattle.execute.specs.Execute.{acted}

unfoldable pub one_step : Cpu → Program Cpu
one_step c = decode c.pc >>= λ d. acted c d.value d.next
