-- The forms of what a litmus test names: words, paths, texts and numbers.
use Rattle.std.specs.Prelude.{ℕ, ◌+◌, ◌^◌, Bool, true, ◌&&◌, nat_le, nat_lt, List, length}
use Rattle.std.specs.List.{list_all}
use Rattle.text_scan.specs.Forms.{is_word, is_component}
use Rattle.litmus_syntax.specs.declared.call.Call.{Call}
use Rattle.litmus_syntax.specs.declared.call.Call.TheVariants as call
use Rattle.litmus_syntax.specs.declared.pred.Pred.{Pred, fold-Pred}
use Rattle.litmus_syntax.specs.declared.pred.Pred.TheOpen.{Pred-F}
use Rattle.litmus_syntax.specs.declared.pred.Pred.TheOpen as pred

-- each component has 1 to 64 name characters, and is neither `.` nor `..`
abbrev pub is_formed_path : List (List ℕ) → Bool
is_formed_path path = list_all is_component path

abbrev pub is_byte_text : List ℕ → Bool
is_byte_text text = list_all (λ b. nat_lt b 256) text

-- a number that has 32 bits at most
abbrev pub is_narrow : ℕ → Bool
is_narrow n = nat_lt n (2 ^ 32)

-- what the call is called on has its forms
abbrev pub is_formed_call : Call → Bool
is_formed_call (call.Mkdir path) = is_formed_path path
is_formed_call (call.Create path) = is_formed_path path
is_formed_call (call.Write path at text) = is_formed_path path && is_narrow at && is_byte_text text
is_formed_call (call.Append path text) = is_formed_path path && is_byte_text text
is_formed_call (call.Truncate path size) = is_formed_path path && is_narrow size
is_formed_call (call.Link from to) = is_formed_path from && is_formed_path to
is_formed_call (call.Unlink path) = is_formed_path path
is_formed_call (call.Rename from to) = is_formed_path from && is_formed_path to
is_formed_call (call.Attr path key value) = is_formed_path path && is_word key && is_narrow value
is_formed_call (call.Fsync path) = is_formed_path path
is_formed_call (call.FsyncDir path) = is_formed_path path
is_formed_call call.Sync = true
is_formed_call (call.Mark word) = is_word word
is_formed_call call.Begin = true
is_formed_call call.Commit = true

-- an atom's parts have their forms, and a range of `bytes` ends at 65,536 at most; a connective's parts are formed
abbrev pub is_formed_of : Pred-F Bool → Bool
is_formed_of pred.True = true
is_formed_of pred.False = true
is_formed_of (pred.Exists path) = is_formed_path path
is_formed_of (pred.Same left right) = is_formed_path left && is_formed_path right
is_formed_of (pred.SizeIs path size) = is_formed_path path && is_narrow size
is_formed_of (pred.ContentIs path text) = is_formed_path path && is_byte_text text
is_formed_of (pred.BytesAre path at text) = is_formed_path path && is_byte_text text && nat_le (at + length text) 65536
is_formed_of (pred.AttrIs path key value) = is_formed_path path && is_word key && is_narrow value
is_formed_of (pred.Seen word) = is_word word
is_formed_of (pred.Not inner) = inner
is_formed_of (pred.And left right) = left && right
is_formed_of (pred.Or left right) = left && right

abbrev pub is_formed_pred : Pred → Bool
is_formed_pred = fold-Pred Bool is_formed_of
