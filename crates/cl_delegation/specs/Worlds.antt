-- What a configuration, a script and a content give the linkage machine (JVMS SE 8, 5.3).
use Rattle.std.specs.Prelude.{ℕ, List, Result}
use Rattle.cl_classfile.specs.Files.{File, FileFault}
use Rattle.cl_classfile.specs.Reading.{read_of}
use Rattle.cl_model.specs.Content.{Content}
use Rattle.cl_model.specs.Homes.{World}
use Rattle.cl_model.specs.Machine.{Setting}
use Rattle.cl_model.specs.Worlds.{seen_file}
use Rattle.cl_config.specs.Loaders.{loaders_in, schedule_of}
use Rattle.cl_config.specs.Views.{Configured, Scripted}

-- the file that bytes spell, or its first fault (4.1)
abbrev pub read : List ℕ → Result File FileFault
read bytes = seen_file (read_of bytes)

-- the loaders, their content, and how bytes are read (5.3)
abbrev pub world_of : Configured → Content → World
world_of c content = record { loaders = loaders_in c; content = content; read = read }

-- the script over that world (5.3)
abbrev pub setting_of : Configured → Scripted → Content → Setting
setting_of c s content =
    record { world = world_of c content; script = schedule_of s; rounds = s.rounds }
