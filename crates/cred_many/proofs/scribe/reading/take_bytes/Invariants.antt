use Rattle.std.proofs.Common.{◌≡◌, ◌+◌, ◌≤◌, drop, length}
use Rattle.cred_cli.specs.Script.{line_ends}
use Rattle.cred_many.specs.Reading.{ComesNext, MovesOver, Place, place}
use Rattle.cred_many.proofs.scribe.reading.take_bytes.Given as goal

-- the other bytes come next, and once they are taken all are
abbrev pub invariant-loop-byte : goal.invariant-loop-byte
invariant-loop-byte g l = record {
  next : ComesNext g.J.ServiceId.service.input (place l.decoder.start l.decoder.number) (drop l.byte-index l.bytes);
  on : (final : Place) → MovesOver g.J.ServiceId.service.input (place l.decoder.start l.decoder.number) (drop l.byte-index l.bytes) final
      → MovesOver g.J.ServiceId.service.input (place l.fn.decoder.start l.fn.decoder.number) l.bytes final;
  number : l.decoder.number ≡ l.sender.handed;
  handed : l.sender.handed + line_ends (drop l.byte-index l.bytes) ≡ l.fn.sender.handed + line_ends l.bytes;
  channel : l.sender.book.end ≡ l.fn.sender.book.end;
  few : l.sender.handed + length (drop l.byte-index l.bytes) ≤ l.fn.sender.handed + length l.bytes;
}
