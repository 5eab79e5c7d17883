-- Private: the base words and the kind words, one by one.
use Rattle.std.specs.Prelude.{ℕ, List, codes}
use Rattle.model_reader.specs.declared.expr.Expr.{Expr}
use Rattle.model_reader.specs.declared.expr.Expr.TheVariants.{Po, Id, Any, SameFile, SameBlock, SameDir, SameName, SameCall, SameTxn}
use Rattle.model_reader.specs.declared.words.BaseWord.{BaseWord}
use Rattle.model_reader.specs.declared.words.BaseWord.TheVariants as base
use Rattle.model_reader.specs.declared.words.KindWord.{KindWord}
use Rattle.model_reader.specs.declared.words.KindWord.TheVariants as kind

abbrev pub base_text : BaseWord → List ℕ
base_text base.Po = codes "po"
base_text base.Id = codes "id"
base_text base.Any = codes "any"
base_text base.File = codes "file"
base_text base.Block = codes "block"
base_text base.Dir = codes "dir"
base_text base.Name = codes "name"
base_text base.Call = codes "call"
base_text base.Txn = codes "txn"

abbrev pub base_expr : BaseWord → Expr
base_expr base.Po = Po
base_expr base.Id = Id
base_expr base.Any = Any
base_expr base.File = SameFile
base_expr base.Block = SameBlock
base_expr base.Dir = SameDir
base_expr base.Name = SameName
base_expr base.Call = SameCall
base_expr base.Txn = SameTxn

abbrev pub kind_text : KindWord → List ℕ
kind_text kind.Write = codes "write"
kind_text kind.Extend = codes "extend"
kind_text kind.Trunc = codes "trunc"
kind_text kind.Attr = codes "attr"
kind_text kind.Link = codes "link"
kind_text kind.Unlink = codes "unlink"
kind_text kind.Fsync = codes "fsync"
kind_text kind.FsyncDir = codes "fsyncdir"
kind_text kind.Sync = codes "sync"
kind_text kind.Mark = codes "mark"

abbrev pub kind_bit : KindWord → ℕ
kind_bit kind.Write = 1
kind_bit kind.Extend = 2
kind_bit kind.Trunc = 4
kind_bit kind.Attr = 8
kind_bit kind.Link = 16
kind_bit kind.Unlink = 32
kind_bit kind.Fsync = 64
kind_bit kind.FsyncDir = 128
kind_bit kind.Sync = 256
kind_bit kind.Mark = 512
