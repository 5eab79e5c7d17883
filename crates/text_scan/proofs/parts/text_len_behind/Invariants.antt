use Rattle.std.proofs.Common.{◌≡◌, ◌+◌, length}
use Rattle.text_scan.specs.Texts.{text_len}
use Rattle.text_scan.proofs.parts.text_len_behind.Given as goal

abbrev pub invariant-loop-byte : goal.invariant-loop-byte
invariant-loop-byte l = text_len l.bytes + length l.rest ≡ length l.bytes + text_len l.rest

abbrev pub decreases-loop-byte : goal.decreases-loop-byte
decreases-loop-byte l = length l.rest
