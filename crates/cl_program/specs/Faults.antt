-- Which faults a step of the program may have, and their texts.
use Rattle.std.specs.Prelude.{⊤, ℕ, List, ◌++◌, codes, string_bytes}
use Rattle.cl_classfile.specs.Texts as files
use Rattle.cl_bundle.specs.Faults as bundles
use Rattle.cl_config.specs.ConfigTexts as configs
use Rattle.cl_config.specs.declared.fault.ConfigError.{ConfigError}
use Rattle.cl_config.specs.declared.fault.ConfigError.TheVariants as errors
use Rattle.cl_config.specs.Texts.{script_text}
use Rattle.cl_schedule.specs.Texts.{serve_text}
use Rattle.cl_program.specs.declared.fault.Fault.{Fault}
use Rattle.cl_program.specs.declared.fault.Fault.TheVariants.{Input, Write, TooLarge, NotUtf8, Bundle, Config, Script, Serve, Threads, Path, File, Words, Memory}
use Rattle.cl_program.specs.declared.fault.ThreadFault.{ThreadFault}
use Rattle.cl_program.specs.declared.fault.ThreadFault.TheVariants as threads
use Rattle.cl_pool.specs.declared.fault.PoolFault.{PoolFault}
use Rattle.cl_pool.specs.declared.fault.PoolFault.TheVariants as pool
use Rattle.cl_streams.specs.declared.input.InputFault.{InputFault}
use Rattle.cl_streams.specs.declared.input.InputFault.TheVariants as input
use Rattle.cl_streams.specs.declared.output.PrintFault.{PrintFault}
use Rattle.cl_streams.specs.declared.output.PrintFault.TheVariants as print

-- a read failed, the bytes are too many, or memory ran out
abbrev pub IsReadFault : Fault → Type 0
IsReadFault Input = ⊤
IsReadFault TooLarge = ⊤
IsReadFault Memory = ⊤
IsReadFault _ = ⊥

-- so it is, or the bytes are no text
abbrev pub IsInputFault : Fault → Type 0
IsInputFault NotUtf8 = ⊤
IsInputFault fault = IsReadFault fault

-- why standard input was not read is what ends the program
abbrev pub input_fault : InputFault → Fault
input_fault input.Unread = Input
input_fault input.TooLarge = TooLarge
input_fault input.Memory = Memory

-- why a configuration was not read is what ends the program
abbrev pub config_fault : ConfigError → Fault
config_fault errors.Memory = Memory
config_fault (errors.Fault fault) = Config fault

-- what refuses a report is what ends the program
abbrev pub print_fault : PrintFault → Fault
print_fault print.Write = Write
print_fault print.Memory = Memory

-- a pool's fault, without the registry in which a request has no answer
abbrev pub thread_fault : {A : Type 0} → PoolFault A → ThreadFault
thread_fault pool.Memory = threads.Memory
thread_fault pool.Workers = threads.Workers
thread_fault pool.NoThread = threads.NoThread
thread_fault pool.Stray = threads.Stray
thread_fault (pool.Unanswered registry) = threads.Unanswered

-- the text of why several workers made no report, that of the pool
abbrev pub thread_text : ThreadFault → List ℕ
thread_text threads.Memory = codes "V0 Memory"
thread_text threads.Workers = codes "V1 Workers"
thread_text threads.NoThread = codes "V2 NoThread"
thread_text threads.Stray = codes "V3 Stray"
thread_text threads.Unanswered = codes "V4 Unanswered"

-- the text of a fault; of what a bundle, a configuration, a script, its service or a class file is refused with, that
-- fault's own text
abbrev pub fault_text : Fault → List ℕ
fault_text Input = codes "cannot read standard input"
fault_text Write = codes "cannot write"
fault_text TooLarge = codes "input too large"
fault_text NotUtf8 = codes "input is not UTF-8"
fault_text (Bundle fault) = bundles.fault_text fault
fault_text (Config fault) = codes "config: " ++ configs.fault_text fault
fault_text (Script fault) = codes "script: " ++ script_text fault
fault_text (Serve fault) = serve_text fault
fault_text (Threads fault) = thread_text fault
fault_text (Path path) = codes "cannot read " ++ string_bytes path
fault_text (File error) = files.error_text error
fault_text Words = codes "words are not UTF-8"
fault_text Memory = codes "out of memory"
