-- Trouble with sending a letter, as the fault that the call answers which read the names for it.
-- Assumes nothing.
use Rattle.outgoing.specs.declared.trouble.SendTrouble.{SendTrouble}
use Rattle.outgoing.specs.declared.trouble.SendTrouble.TheVariants as trouble
use Rattle.plant_books.specs.declared.send_trouble.SendFault.{SendFault}
use Rattle.plant_books.specs.declared.send_trouble.SendFault.TheVariants.{TooShort, Memory}

abbrev pub fault_of : SendTrouble → SendFault
fault_of trouble.TooShort = TooShort
fault_of trouble.Memory = Memory
