-- What a bank means.
use Rattle.assembly.specs.Meaning.{Meaning, ram_of, rom_of, sensor_of}
use Rattle.assembly.specs.declared.bank.Bank.{Bank}
use Rattle.assembly.specs.declared.bank.Bank.TheVariants.{Ram, Rom, Sensor}

abbrev pub bank_meaning : Bank → Meaning
bank_meaning (Ram base bytes) = ram_of base bytes.items
bank_meaning (Rom base bytes) = rom_of base bytes.items
bank_meaning (Sensor page) = sensor_of page.base page.cells
