-- What a trouble in reading is to the reader of a whole file.
use Rattle.sig_base.specs.declared.files.Trouble.{Trouble}
use Rattle.sig_base.specs.declared.files.Trouble.TheVariants.{Failed, NoMemory as no_memory}
use Rattle.sig_base.specs.declared.read.ReadRefusal.{ReadRefusal}
use Rattle.sig_base.specs.declared.read.ReadRefusal.TheVariants.{ReadFault, NoMemory}

-- a failed read is a fault of the file, and want of memory stays what it is
abbrev pub refusal_of : Trouble → ReadRefusal
refusal_of Failed = ReadFault
refusal_of no_memory = NoMemory
