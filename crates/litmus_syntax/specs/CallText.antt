-- How calls are written: their tokens, separated by one space.
use Rattle.std.specs.Prelude.{ℕ, List, ◌∷◌, ◌++◌, codes, decimal}
use Rattle.litmus_syntax.specs.declared.call.Call.{Call}
use Rattle.litmus_syntax.specs.declared.call.Call.TheVariants as call
use Rattle.litmus_syntax.specs.Texts.{path_text, quoted}

abbrev pub call_text : Call → List ℕ
call_text (call.Mkdir path) = codes "mkdir " ++ path_text path
call_text (call.Create path) = codes "create " ++ path_text path
call_text (call.Write path at text) = codes "write " ++ path_text path ++ 32 ∷ decimal at ++ 32 ∷ quoted text
call_text (call.Append path text) = codes "append " ++ path_text path ++ 32 ∷ quoted text
call_text (call.Truncate path size) = codes "truncate " ++ path_text path ++ 32 ∷ decimal size
call_text (call.Link from to) = codes "link " ++ path_text from ++ 32 ∷ path_text to
call_text (call.Unlink path) = codes "unlink " ++ path_text path
call_text (call.Rename from to) = codes "rename " ++ path_text from ++ 32 ∷ path_text to
call_text (call.Attr path key value) = codes "attr " ++ path_text path ++ 32 ∷ key ++ 32 ∷ decimal value
call_text (call.Fsync path) = codes "fsync " ++ path_text path
call_text (call.FsyncDir path) = codes "fsyncdir " ++ path_text path
call_text call.Sync = codes "sync"
call_text (call.Mark word) = codes "mark " ++ word
call_text call.Begin = codes "begin"
call_text call.Commit = codes "commit"
