-- What is left of a task falls with each turn.
use Rattle.std.proofs.Common.{◌≡◌, ◌∙◌, ◌<◌, ◌≤◌, ◌+◌, ◌*◌, ◌^◌, ℕ, List, [], ◌∷◌, ◌++◌, length, map, Option, Some, refl, sym, ap, subst, arith, length-append, lit<}
use Rattle.std.specs.Prelude.{IsSome}
use Rattle.std.proofs.lemmas.List.{length-map}
use Rattle.cl_classfile.specs.Files.{file_of}
use Rattle.cl_model.specs.Content.{Content}
use Rattle.cl_model.specs.Classes.{class, Above, supers}
use Rattle.cl_model.specs.Frames.{Frame, wanted_supertype, with_accepted}
use Rattle.cl_model.proofs.Measures.{push_falls, load_falls, accept_falls, pop_falls, turn_falls}
use Rattle.cl_hierarchy.specs.Drafts.{Drafted}
use Rattle.cl_hierarchy.specs.Frames.{Framed, frame_of, with_definer}
use Rattle.cl_hierarchy.specs.Paths.{Pathed, frames_of, fresh, IsPath, with_frame, Accepts, Completes}
use Rattle.cl_hierarchy.proofs.Frames.{accepts_one, none_yet}
use Rattle.cl_tasks.specs.Measures.{Phase, Fresh, Looking, Reading, Homing, Defining, Initiating, most, turns, left_while_loading, left_once_ended, left_at}
use Rattle.cl_tasks.proofs.Keep.{top_of, map_last, some_of}

-- ---- sizes

within_most : (n : ℕ) → n < 2 ^ 64 → n < most
unfolding most
within_most n h = h

-- as many as a `usize` counts
pub needs_few : (m n : ℕ) → n < 2 ^ 64 → n ≡ m → m < most
unfolding most
needs_few m n lt is =
    let lim : 2 ^ 64 ≡ most = refl in
    omega (arith, lt, is, lim)

turns_more : most + 7 < turns
unfolding most turns
turns_more = lit< tt

few_turns : 3 < turns
unfolding turns
few_turns = lit< tt

pub frames_within : (told : Option Content) (p : Pathed) → IsPath told p → length (frames_of p) < most
frames_within told p path = subst (λ (n : ℕ). n < most) (sym (length-map p.frames frame_of)) (within_most (length p.frames) path.counted)

pub supers_within : (n : ℕ) (others : List Above) → n ≡ length others → n < 2 ^ 64 → length others ≤ most
supers_within n others e h = let k : n < most = within_most n h in omega arith

-- ---- frames

-- the frames but the last are fewer
before_within : (told : Option Content) (p : Pathed) (before : List Framed) (last : Framed) → IsPath told p → p.frames ≡ before ++ last ∷ [] → length (map frame_of before) < most
before_within told p before last path split =
    let all : length p.frames < most = within_most (length p.frames) path.counted in
    let more : length p.frames ≡ length before + 1 = ap length split ∙ length-append before (last ∷ []) in
    let same : length (map frame_of before) ≡ length before = length-map before frame_of in
    omega arith

-- the next supertype leaves less
pub accept_less : (told : Option Content) (old new : Pathed) (definer : ℕ) → IsPath told old → Accepts old new definer → left_while_loading (frames_of new) < left_once_ended (frames_of old)
accept_less told old new definer path step =
    let before = step.before in
    let last = step.last in
    let top = top_of told old before last path step.split in
    let f = frame_of last in
    let t = class top.above.name definer in
    let xs = map frame_of before in
    let grown : frame_of (with_definer last definer) ≡ with_accepted f t = accepts_one last (with_definer last definer) definer refl (Some top.above) top.wants in
    let next = some_of (wanted_supertype (frame_of (with_definer last definer))) step.waits in
    let frames : frames_of new ≡ xs ++ with_accepted f t ∷ [] = ap frames_of step.now ∙ map_last before (with_definer last definer) ∙ ap (λ (y : Frame). xs ++ y ∷ []) grown in
    subst (λ (fs : List Frame). left_while_loading fs < left_once_ended (frames_of old)) (sym frames)
    (subst (λ (fs : List Frame). left_while_loading (xs ++ with_accepted f t ∷ []) < left_once_ended fs) (sym top.frames)
    (accept_falls most most xs f t next.0 (before_within told old before last path step.split) (ap wanted_supertype (sym grown) ∙ next.1)))

-- the end of a frame leaves less
pub complete_less : (told : Option Content) (old new : Pathed) (definer : ℕ) (x : Framed) → IsPath told old → Completes old new definer x → left_once_ended (frames_of new) < left_once_ended (frames_of old)
complete_less told old new definer x path step =
    let before = step.before in
    let last = step.last in
    let xs = map frame_of before in
    let top = top_of told old before last path step.split in
    subst (λ (fs : List Frame). left_once_ended fs < left_once_ended (frames_of old)) (sym (ap frames_of step.now))
    (subst (λ (fs : List Frame). left_once_ended xs < left_once_ended fs) (sym top.frames) (pop_falls most most xs (frame_of last) (before_within told old before last path step.split)))

-- a new frame leaves less
pub push_less : (told : Option Content) (p : Pathed) (d : Drafted) → IsPath told p → length (supers (file_of d.file)) ≤ most → IsSome (wanted_supertype (frame_of (fresh d))) → left_while_loading (frames_of (with_frame p (fresh d))) < left_while_loading (frames_of p)
push_less told p d path few waits =
    let first = some_of (wanted_supertype (frame_of (fresh d))) waits in
    subst (λ (fs : List Frame). left_while_loading fs < left_while_loading (frames_of p)) (sym (map_last p.frames (fresh d)))
    (push_falls most most (frames_of p) (frame_of (fresh d)) first.0 (frames_within told p path) few (none_yet (supers (file_of d.file))) first.1)

-- a load that ends leaves less
pub load_less : (told : Option Content) (p : Pathed) → IsPath told p → left_once_ended (frames_of p) < left_while_loading (frames_of p)
load_less told p path = let k : length (frames_of p) < most = frames_within told p path in load_falls most most (frames_of p) (omega arith)

-- ---- turns

-- a task that has still to load what is looked for
abbrev pub IsLoading : Phase → Type 0
IsLoading Defining = ⊥
IsLoading Initiating = ⊥
IsLoading other = Unit {0}

-- a task that is not done
abbrev pub IsAtWork : Phase → Type 0
IsAtWork Fresh = Unit {0}
IsAtWork Looking = Unit {0}
IsAtWork Reading = Unit {0}
IsAtWork Homing = Unit {0}
IsAtWork Defining = Unit {0}
IsAtWork Initiating = Unit {0}

less : (a b p q : ℕ) → a < b → p < turns → turns * a + p < turns * b + q
less a b p q h k = turn_falls turns a b p q h k

-- with less to load than what is loaded now
loading_less : (phase : Phase) (xs : List Frame) (probes a p : ℕ) → IsLoading phase → a < left_while_loading xs → p < turns → turns * a + p < left_at phase xs probes
loading_less Fresh xs probes a p w h k = less a (left_while_loading xs) p (most + 8) h k
loading_less Looking xs probes a p w h k = less a (left_while_loading xs) p (most + 7) h k
loading_less Reading xs probes a p w h k = less a (left_while_loading xs) p (probes + 5) h k
loading_less Homing xs probes a p w h k = less a (left_while_loading xs) p 4 h k
loading_less Defining xs probes a p w h k = absurd w
loading_less Initiating xs probes a p w h k = absurd w

-- with less than once it has ended
ended_less : (phase : Phase) (xs : List Frame) (probes a p : ℕ) → IsAtWork phase → left_once_ended xs < left_while_loading xs → a < left_once_ended xs → p < turns → turns * a + p < left_at phase xs probes
ended_less Fresh xs probes a p w e h k = loading_less Fresh xs probes a p tt (omega arith) k
ended_less Looking xs probes a p w e h k = loading_less Looking xs probes a p tt (omega arith) k
ended_less Reading xs probes a p w e h k = loading_less Reading xs probes a p tt (omega arith) k
ended_less Homing xs probes a p w e h k = loading_less Homing xs probes a p tt (omega arith) k
ended_less Defining xs probes a p w e h k = less a (left_once_ended xs) p 3 h k
ended_less Initiating xs probes a p w e h k = less a (left_once_ended xs) p 2 h k

-- a task begins to look
pub starts_less : (xs : List Frame) (probes more : ℕ) → left_at Looking xs more < left_at Fresh xs probes
starts_less xs probes more = above (turns * left_while_loading xs) most
  where
    above : (a m : ℕ) → a + (m + 7) < a + (m + 8)
    above a m = omega arith

-- it begins to read, and to read of no more loaders than there are
pub reads_less : (xs : List Frame) (probes more : ℕ) → more ≤ most → left_at Reading xs more < left_at Looking xs probes
reads_less xs probes more h = above (turns * left_while_loading xs) most more h
  where
    above : (a m p : ℕ) → p ≤ m → a + (p + 5) < a + (m + 7)
    above a m p h = omega arith

-- one probe less is left
pub probes_less : (xs : List Frame) (probes fewer : ℕ) → fewer < probes → left_at Reading xs fewer < left_at Reading xs probes
probes_less xs probes fewer h = above (turns * left_while_loading xs) probes fewer h
  where
    above : (a m p : ℕ) → p < m → a + (p + 5) < a + (m + 5)
    above a m p h = omega arith

-- the home is asked
pub homes_less : (xs : List Frame) (probes more : ℕ) → left_at Homing xs more < left_at Reading xs probes
homes_less xs probes more = above (turns * left_while_loading xs) probes
  where
    above : (a p : ℕ) → a + 4 < a + (p + 5)
    above a p = omega arith

-- what is looked for is a class without supertypes, and is to be recorded
pub roots_less : (told : Option Content) (p : Pathed) (phase : Phase) (probes more : ℕ) → IsPath told p → IsLoading phase → left_at Defining (frames_of p) more < left_at phase (frames_of p) probes
roots_less told p phase probes more path w = loading_less phase (frames_of p) probes (left_once_ended (frames_of p)) 3 w (load_less told p path) few_turns

-- the home has recorded it
pub joins_less : (told : Option Content) (p : Pathed) (phase : Phase) (probes more : ℕ) → IsPath told p → IsLoading phase → left_at Initiating (frames_of p) more < left_at phase (frames_of p) probes
joins_less told p phase probes more path w = let k : 3 < turns = few_turns in loading_less phase (frames_of p) probes (left_once_ended (frames_of p)) 2 w (load_less told p path) (omega arith)

-- it is recorded with its home, which is another loader than the one that asked
pub defined_less : (xs : List Frame) (probes more : ℕ) → left_at Initiating xs more < left_at Defining xs probes
defined_less xs probes more = above (turns * left_once_ended xs)
  where
    above : (a : ℕ) → a + 2 < a + 3
    above a = omega arith

-- a class is derived, and its first supertype is looked for
pub descends_less : (told : Option Content) (p : Pathed) (d : Drafted) (phase : Phase) (probes more : ℕ) → IsPath told p → IsLoading phase → length (supers (file_of d.file)) ≤ most → IsSome (wanted_supertype (frame_of (fresh d)))
    → left_at Looking (frames_of (with_frame p (fresh d))) more < left_at phase (frames_of p) probes
descends_less told p d phase probes more path w few waits = loading_less phase (frames_of p) probes (left_while_loading (frames_of (with_frame p (fresh d)))) (most + 7) w (push_less told p d path few waits) turns_more

-- the next supertype is looked for
pub accepts_less : (told : Option Content) (old new : Pathed) (definer : ℕ) (phase : Phase) (probes more : ℕ) → IsPath told old → IsAtWork phase → Accepts old new definer → left_at Looking (frames_of new) more < left_at phase (frames_of old) probes
accepts_less told old new definer phase probes more path w step = ended_less phase (frames_of old) probes (left_while_loading (frames_of new)) (most + 7) w (load_less told old path) (accept_less told old new definer path step) turns_more

-- a class has all its supertypes, and is to be recorded
pub completes_less : (told : Option Content) (old new : Pathed) (definer : ℕ) (x : Framed) (phase : Phase) (probes more : ℕ) → IsPath told old → IsAtWork phase → Completes old new definer x → left_at Defining (frames_of new) more < left_at phase (frames_of old) probes
completes_less told old new definer x phase probes more path w step = ended_less phase (frames_of old) probes (left_once_ended (frames_of new)) 3 w (load_less told old path) (complete_less told old new definer x path step) few_turns
