-- The output of lists and exports.
use Rattle.std.specs.Prelude.{◌≡◌, ℕ, List, [], ◌∷◌, ◌++◌, Option, Some, None, Result, Ok, Err, true, ◌⊎◌, ◌<◌, codes, if◌then◌else◌, length, take}
use Rattle.std.specs.{Io.KnownBytes.Appends, Io.KnownBytes.Keeps, List.flat_map}
use Rattle.cred_phc.specs.{Values.RecordValue, Text.record_text, Text.scheme_text}
use Rattle.cred_file.specs.{Cells.mark_text, declared.marks.Mark.Mark}
use Rattle.cred_admin.specs.Marked.{MarkedBook}
use Rattle.cred_book.specs.declared.request.Reply.TheVariants as reply
use Rattle.cred_admin.specs.declared.listing.LineForm.{LineForm}
use Rattle.cred_admin.specs.declared.listing.LineForm.TheVariants as line
use Rattle.cred_admin.specs.{declared.detail.Detail.Detail, declared.detail.Detail.TheVariants.Costs, declared.detail.Detail.TheVariants.Record, declared.fault.Fault.Fault}
use Rattle.cred_admin.specs.declared.fault.Fault.TheVariants as fault
use Rattle.cred_admin.specs.{declared.status.Status.Status, declared.status.Status.TheVariants.Done, declared.status.Status.TheVariants.No, Statuses.status_of}
use Rattle.cred_cli.specs.{Outcome.FrontWritten, Texts.reply_line, Watched.Writing}

-- a name, and the record that stands there, if one does
abbrev pub Entry : Type 0
Entry = List ℕ × Option RecordValue

-- the name, and a line end (byte 10)
abbrev pub name_line : Entry → List ℕ
name_line e = e.0 ++ 10 ∷ []

-- what is shown of a record
abbrev pub detail_text : Detail → RecordValue → List ℕ
detail_text Costs v = scheme_text v.setting.scheme
detail_text Record v = record_text v

abbrev pub detail_of : Detail → Option RecordValue → List ℕ
detail_of detail None = []
detail_of detail (Some v) = detail_text detail v

-- the name, a colon (byte 58), the mark as the book's file has it, the detail or nothing, and a
-- line end
abbrev pub detail_line : Detail → Mark → Entry → List ℕ
detail_line detail m e = e.0 ++ 58 ∷ mark_text m ++ detail_of detail e.1 ++ 10 ∷ []

-- as a passwd-file has it
abbrev pub passwd_line : Mark → Entry → List ℕ
passwd_line m e = detail_line Record m e

-- ---- in JSON (RFC 8259), where neither a name nor a record has a byte that wants an escape

abbrev pub detail_word : Detail → List ℕ
detail_word Costs = codes "costs"
detail_word Record = codes "record"

-- the detail in quotation marks (byte 34)
abbrev pub json_detail : Detail → Option RecordValue → List ℕ
json_detail detail None = codes "null"
json_detail detail (Some v) = 34 ∷ detail_text detail v ++ 34 ∷ []

-- the marks of an account that has some
abbrev pub json_marks : Mark → List ℕ
json_marks m = (if m.locked then codes ",\"locked\":true" else [])
    ++ (if m.must_change then codes ",\"expired\":true" else [])

abbrev pub json_line : Detail → Mark → Entry → List ℕ
json_line detail m e = codes "{\"name\":\"" ++ e.0 ++ codes "\",\"" ++ detail_word detail
    ++ codes "\":" ++ json_detail detail e.1 ++ json_marks m ++ codes "}\n"

-- ---- all of them

-- what a list writes of each, with its mark
abbrev pub line_text : LineForm → Mark → Entry → List ℕ
line_text line.Name m e = name_line e
line_text (line.Passwd detail) m e = detail_line detail m e
line_text (line.Json detail) m e = json_line detail m e

abbrev pub marked_line : LineForm → MarkedBook → Entry → List ℕ
marked_line line book e = line_text line (book.marks e.0) e

-- ---- one account

-- what is written of an account's entry, and the status that goes with it
abbrev pub shown_at : Detail → Mark → Option (Option RecordValue) → List ℕ × Status
shown_at detail m None = (reply_line reply.NoAccount, status_of reply.NoAccount None)
shown_at detail m (Some None) = (reply_line reply.Absent, status_of reply.Absent None)
shown_at detail m (Some (Some v)) = ((mark_text m ++ detail_text detail v) ++ 10 ∷ [], Done)

-- the entry and the status in JSON
abbrev pub json_at : Detail → List ℕ → Mark → Option (Option RecordValue) → List ℕ × Status
json_at detail name m None = (codes "null\n", No None)
json_at detail name m (Some None) = (json_line detail m (name, None), No None)
json_at detail name m (Some (Some v)) = (json_line detail m (name, Some v), Done)

-- ---- what becomes of a text

-- the whole text is written, with its status; or, if a call failed, a proper prefix of the text; or
-- nothing
abbrev pub Tells : List ℕ × Status → Writing → Result Status Fault → Type 0
Tells told w (Ok status) = Appends w.before w.now told.0 × (status ≡ told.1)
Tells told w (Err fault.Write) = (w.failed ≡ true) × FrontWritten w.before w.now told.0
Tells told w (Err fault.Memory) = Keeps w.before w.now
Tells told w (Err _) = ⊥

-- a line of each entry is written; or, if a call failed, a proper prefix of their text; or, if
-- there was no memory for a line, the lines of the first n entries, which aren't all
abbrev pub Prints : (Entry → List ℕ) → List Entry → Writing → Result Status Fault → Type 0
Prints line entries w (Ok status) =
    Appends w.before w.now (flat_map line entries) × (status ≡ Done)
Prints line entries w (Err fault.Write) =
    (w.failed ≡ true) × FrontWritten w.before w.now (flat_map line entries)
Prints line entries w (Err fault.Memory) =
    (n : ℕ) × (n < length entries) × Appends w.before w.now (flat_map line (take n entries))
Prints line entries w (Err _) = ⊥

-- the kept text is written, and nothing is kept any more; or the text stays kept, and nothing is
-- written
abbrev pub IsPiece : Option (List ℕ) → Option (List ℕ) → List ℕ → List ℕ → Type 0
IsPiece before now old new =
    (Appends before now old × (new ≡ [])) ⊎ ((now ≡ before) × (new ≡ old))
