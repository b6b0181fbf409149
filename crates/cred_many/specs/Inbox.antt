-- The messages to the thread that has the book. The messages of the thread that reads arrive in the
-- order in which it sent them, each once. No public clause mentions this.
use Rattle.std.specs.Prelude.{◌≡◌, ℕ, Bool, true, false, List, [], ◌∷◌, ◌++◌, Option, None, length}
use mathlib.Core.Option.{some}
use lib.ListN.{get_elem?}
use Rattle.cred_many.specs.{LineOperations.Entry, declared.inbox.Known.Known, declared.fault.ServiceFault.ServiceFault, declared.inbox.Progress.Progress, declared.scribe.job.Message.Message}
use Rattle.cred_many.specs.declared.scribe.job.Message.TheVariants.{Came, Ended}

abbrev pub progress : {J : Type 0} → List Entry → Bool → Progress J
progress lines ended = record { lines = lines; ended = ended }

-- nothing was sent, or nothing was received
abbrev pub no_progress : {J : Type 0} → Progress J
no_progress = progress [] false

-- the progress with this message too
abbrev pub after : {J : Type 0} → Progress J → Message J → Progress J
after p (Came line) = progress (p.lines ++ line ∷ []) p.ended
after p Ended = progress p.lines true
after p _ = p

-- the message may come next: a line has the next number, and nothing of the reader follows its end
abbrev pub MayFollow : {J : Type 0} → Progress J → Message J → Type 0
MayFollow p (Came line) = (p.ended ≡ false) × (line.number ≡ length p.lines)
MayFollow p Ended = p.ended ≡ false
MayFollow p _ = Unit {0}

-- the lines that a scribe has taken are the received ones, unless it reports a fault
abbrev pub HasTaken : {J : Type 0} → Progress J → Option ServiceFault → ℕ → Type 0
HasTaken got why came = why ≡ None → came ≡ length got.lines

-- a holder who has received so much, and then receives these messages in their order, has this
-- progress
unfoldable pub Leads : {J : Type 0} → Progress J → List (Message J) → Progress J → Type 0
Leads got [] sent = got ≡ sent
Leads got (message ∷ messages) sent =
    MayFollow got message × Leads (after got message) messages sent

-- the message doesn't come from the reader
abbrev pub IsReport : {J : Type 0} → Message J → Type 0
IsReport {J} message = (p : Progress J) → MayFollow p message × (after p message ≡ p)

abbrev pub known : {J : Type 0} → Bool → Bool → Progress J → Progress J → Known J
known sends takes sent got = record { sends = sends; takes = takes; sent = sent; got = got }

-- of a thread that hashes
abbrev pub no_part : {J : Type 0} → Known J
no_part = known false false no_progress no_progress

-- of the thread that reads
abbrev pub sender_of : {J : Type 0} → Progress J → Known J
sender_of sent = known true false sent no_progress

-- of the thread that has the book
abbrev pub taker_of : {J : Type 0} → Progress J → Known J
taker_of got = known false true no_progress got

-- One pass at most sends lines, and knows all that were sent. One at most receives.
abbrev pub Fits : {J : Type 0} → ℕ → ℕ → Progress J → Progress J → ℕ → Known J → Type 0
Fits sender taker sent got pass k =
    (k.sends ≡ true → (pass ≡ sender) × (k.sent ≡ sent))
    × (k.takes ≡ true → (pass ≡ taker) × (k.got ≡ got))

-- what was received, and then what the channel holds, is what was sent
abbrev pub InOrder : {J : Type 0} → List (Message J) → List (Known J) → Type 0
InOrder {J} messages views =
    (sender : ℕ) × (taker : ℕ) × (sent : Progress J) × (got : Progress J) × Leads got messages sent
    × ((pass : ℕ) (k : Known J) → get_elem? views pass ≡ some k → Fits sender taker sent got pass k)
