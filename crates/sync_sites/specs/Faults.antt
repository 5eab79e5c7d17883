-- Why a litmus test has no list of sites.
use Rattle.std.specs.Prelude.{⊤, List}
use Rattle.litmus_syntax.specs.declared.call.Step.{Step}
use Rattle.litmus_syntax.specs.declared.site.SiteKind.{SiteKind}
use Rattle.fer_events.specs.Tables.{Trace}
use Rattle.sync_sites.specs.declared.fault.SitesFault.{SitesFault}
use Rattle.sync_sites.specs.declared.fault.SitesFault.TheVariants.{TooManyEvents, OutOfMemory}
use Rattle.sync_sites.specs.SiteLists.{AreTooMany}

-- a fault is that there are too many events, or want of memory
abbrev pub IsFaultOf : SiteKind → List Step → Trace → SitesFault → Type 0
IsFaultOf kind body t OutOfMemory = ⊤
IsFaultOf kind body t (TooManyEvents line) = AreTooMany kind body t line
