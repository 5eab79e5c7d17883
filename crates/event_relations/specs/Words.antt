-- Which events a word of a model file relates.
use Rattle.std.specs.Prelude.{◌≡◌, ℕ, ◌<◌, Option, Some}
use Rattle.std.specs.Int.{bit_at}
use Rattle.fer_events.specs.declared.event.Event.{Event}
use Rattle.fer_events.specs.declared.event.Kind.{Kind}
use Rattle.fer_events.specs.declared.event.Kind.TheVariants.{Write, Extend, Trunc, Attr, Link, Unlink, Fsync, FsyncDir, Sync, Mark}
use Rattle.model_reader.specs.declared.expr.Expr.{Expr}
use Rattle.model_reader.specs.declared.expr.Expr.TheVariants as expr

-- the place of a kind among the kinds, from 0
abbrev pub kind_place : Kind → ℕ
kind_place Write = 0
kind_place Extend = 1
kind_place Trunc = 2
kind_place Attr = 3
kind_place Link = 4
kind_place Unlink = 5
kind_place Fsync = 6
kind_place FsyncDir = 7
kind_place Sync = 8
kind_place Mark = 9

-- both events carry a number here, and the same
abbrev pub BothCarry : Option ℕ → Option ℕ → Type 0
BothCarry left right = (n : ℕ) × (left ≡ Some n) × (right ≡ Some n)

-- the word relates the event e, whose number is a, to the event f, whose number is b
pub data Relates (a b : ℕ) (e f : Event) : Expr → Type 0 where
  earlier : a < b → Relates a b e f expr.Po
  itself : a ≡ b → Relates a b e f expr.Id
  any : Relates a b e f expr.Any
  file : BothCarry e.file f.file → Relates a b e f expr.SameFile
  block : BothCarry e.file f.file → BothCarry e.block f.block → Relates a b e f expr.SameBlock
  dir : BothCarry e.dir f.dir → Relates a b e f expr.SameDir
  name : BothCarry e.slot f.slot → Relates a b e f expr.SameName
  call : e.call ≡ f.call → Relates a b e f expr.SameCall
  txn : e.txn ≡ f.txn → Relates a b e f expr.SameTxn
  kinds : (bits : ℕ) → a ≡ b → bit_at bits (kind_place e.kind) ≡ 1 → Relates a b e f (expr.Kinds bits)
