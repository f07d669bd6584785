-- What is answered where the text of a step isn't read (Go specification, Source file organization).
use Rattle.go_parse.specs.declared.source.ReadError.{ReadError}
use Rattle.go_parse.specs.declared.source.ReadError.TheVariants as error
use Rattle.refusals.specs.declared.refusal.Limit.TheVariants.{Weight}
use Rattle.step_files.specs.declared.file.FileFault.{FileFault}
use Rattle.step_files.specs.declared.file.FileFault.TheVariants.{TooLarge, NotRead, NoMemory}

-- what is answered where a text isn't read
abbrev pub fault_of : ReadError → FileFault
fault_of (error.NotUtf8 _) = NotRead
fault_of (error.BadToken _) = NotRead
fault_of (error.Unsupported _) = NotRead
fault_of (error.TooDeep _) = TooLarge (record { limit = Weight; count = 401; bound = 400 })
fault_of (error.NotRead _) = NotRead
fault_of error.NoMemory = NoMemory
