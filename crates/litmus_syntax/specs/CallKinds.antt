-- Which calls only wait for the disk, and which may stand in the setup and in the body.
use Rattle.std.specs.Prelude.{Bool, true, false, not, ◌&&◌, List, filter}
use Rattle.litmus_syntax.specs.declared.call.Call.{Call}
use Rattle.litmus_syntax.specs.declared.call.Call.TheVariants as call

-- a call that only waits for the disk
abbrev pub is_sync : Call → Bool
is_sync (call.Fsync path) = true
is_sync (call.FsyncDir path) = true
is_sync call.Sync = true
is_sync c = false

abbrev pub is_mark : Call → Bool
is_mark (call.Mark word) = true
is_mark c = false

abbrev pub is_mkdir : Call → Bool
is_mkdir (call.Mkdir path) = true
is_mkdir c = false

-- a call that begins or commits a transaction
abbrev pub is_boundary : Call → Bool
is_boundary call.Begin = true
is_boundary call.Commit = true
is_boundary c = false

-- the setup has no syncs, no marks and no transactions
abbrev pub is_setup_call : Call → Bool
is_setup_call c = not (is_sync c) && not (is_mark c) && not (is_boundary c)

-- the body makes no directories
abbrev pub is_body_call : Call → Bool
is_body_call c = not (is_mkdir c)

-- the calls that aren't syncs
abbrev pub sync_free : List Call → List Call
sync_free cs = filter (λ c. not (is_sync c)) cs
