-- Stretches of a name's history in which its failures aren't cleared, and what is asked of them.
use Rattle.std.specs.Prelude.{◌≡◌, ◌⊎◌, ◌≤◌, ◌<◌, ⊤, ℕ, ◌+◌, ◌-◌, ◌/◌, nat_lt, if◌then◌else◌, List, [], ◌∷◌, ◌++◌}
use Rattle.cred_tries.specs.Counts.{day, longest_wait, short_waits, wait}
use Rattle.cred_tries.specs.Histories.{Event, Begun, Sent, Right, Wrong, Unjudged, Forgiven, failures, last_failure, running}

-- the number of tries that failed in a stretch
abbrev pub failed : List Event → ℕ
failed [] = 0
failed (Wrong t ∷ before) = failed before + 1
failed (Begun t ∷ before) = failed before
failed (Right t ∷ before) = failed before
failed (Unjudged t ∷ before) = failed before
failed (Sent t seconds ∷ before) = failed before
failed (Forgiven t ∷ before) = failed before

-- the number of tries that began in it, less those that weren't judged
abbrev pub begun : List Event → ℕ
begun [] = 0
begun (Begun t ∷ before) = begun before + 1
begun (Unjudged t ∷ before) = begun before - 1
begun (Right t ∷ before) = begun before
begun (Wrong t ∷ before) = begun before
begun (Sent t seconds ∷ before) = begun before
begun (Forgiven t ∷ before) = begun before

-- the moment of its first failure
abbrev pub first_failure : List Event → ℕ
first_failure [] = 0
first_failure (Wrong t ∷ before) = if nat_lt 0 (failed before) then first_failure before else t
first_failure (Begun t ∷ before) = first_failure before
first_failure (Right t ∷ before) = first_failure before
first_failure (Unjudged t ∷ before) = first_failure before
first_failure (Sent t seconds ∷ before) = first_failure before
first_failure (Forgiven t ∷ before) = first_failure before

-- no right answer and no forgiving, for however long
abbrev pub IsUncleared : List Event → Type 0
IsUncleared [] = ⊤
IsUncleared (Right t ∷ before) = ⊥
IsUncleared (Forgiven t ∷ before) = ⊥
IsUncleared (Begun t ∷ before) = IsUncleared before
IsUncleared (Wrong t ∷ before) = IsUncleared before
IsUncleared (Unjudged t ∷ before) = IsUncleared before
IsUncleared (Sent t seconds ∷ before) = IsUncleared before

-- Between two right answers or forgivings, at most as many tries fail as the limit and the number
-- of short waits together, and one more for each longest wait between the first and the last.
abbrev pub FailsSeldom : ℕ → List Event → Type 0
FailsSeldom limit history =
    (later stretch before : List Event) → history ≡ later ++ (stretch ++ before)
    → IsUncleared stretch → failed stretch
    ≤ limit + short_waits + (last_failure stretch - first_failure stretch) / longest_wait

-- The right answers, the failures and the forgivings of a history, as its answers tell them:
-- without the tries that begin, are sent away or aren't judged.
abbrev pub judgements : List Event → List Event
judgements [] = []
judgements (Right t ∷ before) = Right t ∷ judgements before
judgements (Wrong t ∷ before) = Wrong t ∷ judgements before
judgements (Forgiven t ∷ before) = Forgiven t ∷ judgements before
judgements (Begun t ∷ before) = judgements before
judgements (Unjudged t ∷ before) = judgements before
judgements (Sent t seconds ∷ before) = judgements before

-- no right answer and no forgiving, and less than a day from each failure to the next, and from the
-- last to `now`
abbrev pub IsFailing : ℕ → List Event → Type 0
IsFailing now [] = ⊤
IsFailing now (Wrong t ∷ before) = (now < t + day) × IsFailing t before
IsFailing now (Right t ∷ before) = ⊥
IsFailing now (Forgiven t ∷ before) = ⊥
IsFailing now (Begun t ∷ before) = IsFailing now before
IsFailing now (Unjudged t ∷ before) = IsFailing now before
IsFailing now (Sent t seconds ∷ before) = IsFailing now before

-- A stretch of failing in which as many tries failed or began as may fail. After it the next try
-- begins only when all of them have failed, and the wait after the last failure is over.
abbrev pub WaitsBehind : ℕ → List Event → Type 0
WaitsBehind limit history =
    (later stretch before : List Event) (t : ℕ) → history ≡ later ++ (Begun t ∷ (stretch ++ before))
    → IsFailing t stretch → (limit ≤ failed stretch) ⊎ (limit ≤ begun stretch)
    → (limit ≤ failed stretch) × (last_failure stretch + wait (failed stretch - limit) ≤ t)

-- and so each failure after as many as may be comes only when that wait after the last one is over
abbrev pub FailsBehind : ℕ → List Event → Type 0
FailsBehind limit history =
    (later stretch before : List Event) (t : ℕ) → history ≡ later ++ (Wrong t ∷ (stretch ++ before))
    → IsFailing t stretch → limit ≤ failed stretch
    → last_failure stretch + wait (failed stretch - limit) ≤ t

-- If no failure counts, a try is sent away only while as many run as may run. No failure counts
-- before the first failure, after a right answer or a forgiving, and once a day has passed without
-- a failure.
abbrev pub QuietBegins : ℕ → List Event → Type 0
QuietBegins limit history =
    (later before : List Event) (t seconds : ℕ) → history ≡ later ++ (Sent t seconds ∷ before)
    → failures t before ≡ 0 → limit ≤ running before

-- A try is too early by so many seconds: as many failures count as the limit says, and the wait
-- after the last of them is over then.
abbrev pub IsEarly : ℕ → ℕ → ℕ → List Event → Type 0
IsEarly limit now seconds before =
    (limit ≤ failures now before)
    × (now + seconds ≡ last_failure before + wait (failures now before - limit))
