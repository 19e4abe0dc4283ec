-- What a command is that an argument was added to.
use Rattle.std.proofs.Common.{◌≡◌, ◌∙◌, ◌||◌, Bool, false, ap₂}
use Rattle.clap.specs.Words.{AddsArg, App, Rule, rule_of, with_rule}
use Rattle.clap.specs.declared.builder.arg.Arg.{Arg}
use Rattle.clap.specs.declared.builder.command.Command.{Command}
use Rattle.classlink.specs.CommandLine.{IsCommand}

pub adds : (a : App) (c m : Command) (r : Rule) (arg : Arg) → IsCommand a c → rule_of arg ≡ r → arg.global ≡ false → AddsArg c arg m → IsCommand (with_rule a r) m
adds a c m r arg is rule local h = (h.shape local ∙ ap₂ with_rule is.0 rule, h.globals ∙ ap₂ (λ (x y : Bool). x || y) is.1 local)
