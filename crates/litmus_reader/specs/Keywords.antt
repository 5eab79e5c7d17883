-- The words that a line begins with.
use Rattle.std.specs.Prelude.{ℕ, List, codes}
use Rattle.litmus_reader.specs.declared.keywords.Keyword.{Keyword}
use Rattle.litmus_reader.specs.declared.keywords.Keyword.TheVariants as word

abbrev pub keyword_text : Keyword → List ℕ
keyword_text word.Litmus = codes "litmus"
keyword_text word.Block = codes "block"
keyword_text word.Sector = codes "sector"
keyword_text word.Setup = codes "setup"
keyword_text word.Body = codes "body"
keyword_text word.Exists = codes "exists"
keyword_text word.Always = codes "always"
keyword_text word.Mkdir = codes "mkdir"
keyword_text word.Create = codes "create"
keyword_text word.Write = codes "write"
keyword_text word.Append = codes "append"
keyword_text word.Truncate = codes "truncate"
keyword_text word.Link = codes "link"
keyword_text word.Unlink = codes "unlink"
keyword_text word.Rename = codes "rename"
keyword_text word.Attr = codes "attr"
keyword_text word.Fsync = codes "fsync"
keyword_text word.FsyncDir = codes "fsyncdir"
keyword_text word.Sync = codes "sync"
keyword_text word.Mark = codes "mark"
keyword_text word.Begin = codes "begin"
keyword_text word.Commit = codes "commit"
