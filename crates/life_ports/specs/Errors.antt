-- The answers that have one value.
use Rattle.life_ports.specs.declared.errors.Failed.{Failed}
use Rattle.life_ports.specs.declared.errors.NoMemory.{NoMemory}

abbrev pub failed : Failed
failed = record {}

abbrev pub no_memory : NoMemory
no_memory = record {}
