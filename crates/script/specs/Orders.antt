-- Commands by what they say, without where their words lie in memory.
use Rattle.std.specs.Prelude.{ℕ, List}
use Rattle.script.specs.declared.command.Contents.{Contents}
use Rattle.script.specs.declared.command.Contents.TheVariants as contents
use Rattle.script.specs.declared.command.Command.{Command}
use Rattle.script.specs.declared.command.Command.TheVariants as commands
use Rattle.script.specs.Numbers.{bytes_in}

-- the bytes that a board is made with, or the name of their file
pub data Bytes : Type 0 where
  given : List ℕ → Bytes
  file : List ℕ → Bytes

pub data Order : Type 0 where
  case : List ℕ → Order
  ram : ℕ → Bytes → Order
  rom : ℕ → Bytes → Order
  sensor : ℕ → List ℕ → Order
  cut : ℕ → Order
  store : ℕ → ℕ → Order
  peek : ℕ → Order
  dump : ℕ → ℕ → Order
  sheets : ℕ → ℕ → Order
  open_session : Order
  preset : ℕ → ℕ → Order
  start : ℕ → Order
  step : Order
  run : ℕ → Order
  close : Order
  reg : ℕ → Order
  show : Order
  reads : Order
  writes : Order
  list : ℕ → ℕ → Order
  report : Order

abbrev pub contents_said : Contents → Bytes
contents_said (contents.Digits text) = given (bytes_in text.now)
contents_said (contents.File name) = file name.now

-- what a command says
abbrev pub said : Command → Order
said (commands.Case text) = case text.now
said (commands.Ram base bytes) = ram base (contents_said bytes)
said (commands.Rom base bytes) = rom base (contents_said bytes)
said (commands.Sensor base readings) = sensor base readings
said (commands.Cut at) = cut at
said (commands.Store address byte) = store address byte
said (commands.Peek address) = peek address
said (commands.Dump address count) = dump address count
said (commands.Sheets r w) = sheets r w
said commands.Open = open_session
said (commands.Preset register value) = preset register value
said (commands.Start pc) = start pc
said commands.Step = step
said (commands.Run n) = run n
said commands.Close = close
said (commands.Reg register) = reg register
said commands.Show = show
said commands.Reads = reads
said commands.Writes = writes
said (commands.List address count) = list address count
said commands.Report = report
