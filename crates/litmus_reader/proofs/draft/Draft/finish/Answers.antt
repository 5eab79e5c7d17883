use Rattle.std.proofs.Common.{sym, subst}
use Rattle.litmus_syntax.specs.Test.{Test}
use Rattle.litmus_reader.specs.WholeFiles.{IsTest}
use Rattle.litmus_reader.proofs.Finishing.{unasked, finished, limits}
use Rattle.litmus_reader.proofs.draft.Draft.finish.Goals as goal

pub returns-in_default : goal.returns-in_default
returns-in_default c = λ stated h. unasked stated c.args.self h c.in_default.is

pub returns : goal.returns
returns c = λ stated h. subst (λ (t : Test). IsTest stated t) (sym c.new.ensures) (finished stated c.args.self c.in-Some.field-0 h c.in-Some.is)

pub new-requires : goal.new-requires
new-requires c = limits (record { formed = c.kept_limits.ensures.formed; short = c.kept_limits.ensures.short }) c.requires.0 c.args.self c.in-Some.field-0 c.requires.1 c.in-Some.is
