-- The models that come with Ferrite, as relations of events.
use Rattle.std.specs.Prelude.{◌^◌, false, List, [], ◌∷◌, codes, map, sum}
use Rattle.fer_events.specs.declared.event.Kind.{Kind}
use Rattle.fer_events.specs.declared.event.Kind.TheVariants.{Write, Extend, Trunc, Attr, Link, Unlink, Fsync, FsyncDir, Sync, Mark}
use Rattle.model_library.specs.declared.texts.ShippedModel.{ShippedModel}
use Rattle.model_library.specs.declared.texts.ShippedModel.TheVariants.{Sequential, Ext4like, Loose}
use Rattle.model_reader.specs.declared.expr.Expr.{Expr}
use Rattle.model_reader.specs.declared.expr.Expr.TheVariants.{Po, SameFile, SameBlock, SameDir, Kinds, Named, And, Seq}
use Rattle.model_reader.specs.declared.model.Definition.{Definition}
use Rattle.model_reader.specs.declared.model.Model.{Model}
use Rattle.event_relations.specs.Words.{kind_place}

-- one event that is of one of these kinds, each of which is listed once
abbrev pub of_kinds : List Kind → Expr
of_kinds kinds = Kinds (sum (map (λ kind. 2 ^ kind_place kind) kinds))

-- a pair of the middle one, from an event of the first to one of the last
abbrev pub from_to : Expr → Expr → Expr → Expr
from_to first middle last = Seq (Seq first middle) last

-- every pair of events in program order
abbrev pub sequential_model : Model
sequential_model = record { name = codes "sequential"; lets = []; keeps = Po ∷ []; version = 1 }

-- a definition that doesn't name itself and stands before all kept expressions
abbrev pub stands_for : Expr → Definition
stands_for x = record { value = x; before = 0; recursive = false }

-- the names that `ext4like` defines, `names` and `meta`: changes of a directory's names, and of a file's size and attributes
abbrev pub names : Expr
names = Named 0

abbrev pub meta : Expr
meta = Named 1

-- in program order: events of one block; in one file, its changes of size and attributes, bytes that are written and a
-- later new size, and all of these and a later `fsync`; in one directory, changes of its names, and these and a later
-- `fsyncdir`; anything and a later `sync`; and a sync of each kind, or a mark, and anything later
abbrev pub ext4like_model : Model
ext4like_model = record {
  name = codes "ext4like";
  lets = stands_for (of_kinds (Link ∷ Unlink ∷ [])) ∷ stands_for (of_kinds (Extend ∷ Trunc ∷ Attr ∷ [])) ∷ [];
  keeps =
      And Po SameBlock
      ∷ from_to meta (And Po SameFile) meta
      ∷ from_to (of_kinds (Write ∷ [])) (And Po SameFile) (of_kinds (Extend ∷ Trunc ∷ []))
      ∷ from_to names (And Po SameDir) names
      ∷ from_to (of_kinds (Write ∷ Extend ∷ Trunc ∷ Attr ∷ [])) (And Po SameFile) (of_kinds (Fsync ∷ []))
      ∷ from_to names (And Po SameDir) (of_kinds (FsyncDir ∷ []))
      ∷ Seq Po (of_kinds (Sync ∷ []))
      ∷ Seq (of_kinds (Fsync ∷ FsyncDir ∷ Sync ∷ Mark ∷ [])) Po
      ∷ [];
  version = 1;
}

-- in program order: anything and a later `sync`, and a `sync` and anything later
abbrev pub loose_model : Model
loose_model = record {
  name = codes "loose";
  lets = [];
  keeps = Seq Po (of_kinds (Sync ∷ [])) ∷ Seq (of_kinds (Sync ∷ [])) Po ∷ [];
  version = 1;
}

-- what the model's file says
abbrev pub shipped_model : ShippedModel → Model
shipped_model Sequential = sequential_model
shipped_model Ext4like = ext4like_model
shipped_model Loose = loose_model
