-- Paths: what is pushed, goes on and ends keeps them.
use Rattle.std.proofs.Common.{◌≡◌, ◌∙◌, ◌<◌, ◌^◌, ℕ, false, List, [], ◌∷◌, ◌++◌, length, map, Option, Some, None, refl, sym, ap, subst, arith, length-append}
use Rattle.std.specs.Prelude.{IsSome, IfSome}
use Rattle.std.proofs.lemmas.List.{map_push}
use Rattle.cl_model.specs.Content.{Content}
use Rattle.cl_model.specs.Classes.{class, Above}
use Rattle.cl_model.specs.Frames.{Frame, wanted_supertype, asking_loader, with_accepted, IsFrames}
use Rattle.cl_model.proofs.Stacks.{frame_push, frame_pop, frame_accept, path_scanned}
use Rattle.cl_config.specs.Views.{Configured}
use Rattle.cl_delegation.specs.Worlds.{world_of}
use Rattle.cl_hierarchy.specs.Drafts.{Drafted, IsDraft}
use Rattle.cl_hierarchy.specs.Frames.{Framed, frame_of, with_definer}
use Rattle.cl_hierarchy.specs.Paths.{Pathed, frames_of, fresh, name_of, sought_name, at_loader, at_name, is_on, FrameStands, AllStand, KeepsRules, IsPath, with_frame}
use Rattle.cl_hierarchy.specs.Repeats.{FitsNext}
use Rattle.cl_hierarchy.proofs.Ends.{all_push, all_pop, asking_push, sought_push}
use Rattle.cl_hierarchy.proofs.Frames.{accepts_one}
use Rattle.cl_hierarchy.proofs.Placed.{fresh_frame}

-- ---- each stands for the one before

stand_push : (c : Configured) (loader : ℕ) (name : List ℕ) (xs : List Framed) (x : Framed) → AllStand c loader name xs → FrameStands c (asking_loader loader (map frame_of xs)) (sought_name name xs) x → AllStand c loader name (xs ++ x ∷ [])
stand_push c loader name [] x all s = (s, tt)
stand_push c loader name (y ∷ ys) x all s = (all.0, stand_push c y.draft.class.loader (name_of (wanted_supertype (frame_of y))) ys x all.1 s)

pub stand_pop : (c : Configured) (loader : ℕ) (name : List ℕ) (xs : List Framed) (x : Framed) → AllStand c loader name (xs ++ x ∷ []) → AllStand c loader name xs × FrameStands c (asking_loader loader (map frame_of xs)) (sought_name name xs) x
stand_pop c loader name [] x all = (tt, all.0)
stand_pop c loader name (y ∷ ys) x all = let r = stand_pop c y.draft.class.loader (name_of (wanted_supertype (frame_of y))) ys x all.1 in ((all.0, r.0), r.1)

pub some_of : (o : Option Above) → IsSome o → (a : Above) × (o ≡ Some a)
some_of None s = absurd cc
some_of (Some a) s = (a, refl)

-- ---- the frames of the rules

-- what the rules say of the frames of a list
abbrev pub Ruled : Configured → Content → ℕ → List ℕ → List Framed → ℕ → List ℕ → Type 0
Ruled c content loader name xs al an = IsFrames (world_of c content) [] loader name (map frame_of xs) al an

-- frames with one more at the end lead to what that one wants
ruled_end : (c : Configured) (content : Content) (loader : ℕ) (name : List ℕ) (xs : List Framed) (x : Framed) (a : Above) → wanted_supertype (frame_of x) ≡ Some a
    → IsFrames (world_of c content) [] loader name (map frame_of xs ++ frame_of x ∷ []) x.draft.class.loader a.name
    → Ruled c content loader name (xs ++ x ∷ []) (asking_loader loader (map frame_of (xs ++ x ∷ []))) (sought_name name (xs ++ x ∷ []))
ruled_end c content loader name xs x a want r =
    let w = world_of c content in
    let at : sought_name name (xs ++ x ∷ []) ≡ a.name = sought_push name xs x ∙ ap name_of want in
    subst (λ (n : List ℕ). Ruled c content loader name (xs ++ x ∷ []) (asking_loader loader (map frame_of (xs ++ x ∷ []))) n) (sym at)
    (subst (λ (l : ℕ). Ruled c content loader name (xs ++ x ∷ []) l a.name) (sym (asking_push loader xs x))
    (subst (λ (fs : List Frame). IsFrames w [] loader name fs x.draft.class.loader a.name) (sym (map_push frame_of xs x)) r))

-- the same, of frames that end in one
pub ruled_ends : (c : Configured) (content : Content) (loader : ℕ) (name : List ℕ) (xs : List Framed) (x : Framed) (al : ℕ) (an : List ℕ) → Ruled c content loader name (xs ++ x ∷ []) al an
    → IsFrames (world_of c content) [] loader name (map frame_of xs ++ frame_of x ∷ []) al an
ruled_ends c content loader name xs x al an r = subst (λ (fs : List Frame). IsFrames (world_of c content) [] loader name fs al an) (map_push frame_of xs x) r

rules_push : (told : Option Content) (p : Pathed) (d : Drafted) → KeepsRules told p → IsDraft told d → d.home.config ≡ p.config → d.home.asked ≡ at_loader p → d.class.name ≡ at_name p → IsSome (wanted_supertype (frame_of (fresh d)))
    → is_on p d.class ≡ false → KeepsRules told (with_frame p (fresh d))
rules_push None p d rules draft config asked name waits absent = tt
rules_push (Some content) p d rules draft config asked name waits absent =
    let w = world_of p.config content in
    let a = some_of (wanted_supertype (frame_of (fresh d))) waits in
    let below : IsFrames w [] p.loader p.name (frames_of p) (at_loader p) d.class.name = subst (λ (n : List ℕ). IsFrames w [] p.loader p.name (frames_of p) (at_loader p) n) (sym name) rules in
    let frame = fresh_frame p.config content _ d (at_loader p) draft config asked (path_scanned (frames_of p) d.class ∙ absent) in
    ruled_end p.config content p.loader p.name p.frames (fresh d) a.0 a.1 (frame_push w [] p.loader (at_loader p) p.name (frames_of p) (frame_of (fresh d)) a.0 below frame a.1)

pub path_push : (told : Option Content) (p : Pathed) (d : Drafted) → IsPath told p → IsDraft told d → d.home.config ≡ p.config → d.home.asked ≡ at_loader p → d.class.name ≡ at_name p → IsSome (wanted_supertype (frame_of (fresh d)))
    → is_on p d.class ≡ false → length (p.frames ++ fresh d ∷ []) < 2 ^ 64 → IsPath told (with_frame p (fresh d))
path_push told p d path draft config asked name waits absent counted =
    record {
      stand = stand_push p.config p.loader p.name p.frames (fresh d) path.stand (record { config = config; asked = asked; named = name; waits = waits });
      drafts = all_push (λ (x : Framed). IsDraft told x.draft) p.frames (fresh d) path.drafts draft;
      rules = rules_push told p d path.rules draft config asked name waits absent;
      counted = counted;
    }

-- ---- the last ends

module _ (told : Option Content) (c : Configured) (loader : ℕ) (name : List ℕ) (xs : List Framed) (x : Framed) where
  -- a path of these frames
  abbrev pub along : List Framed → Pathed
  along fs = record { config = c; loader = loader; name = name; frames = fs }

  rules_pop : (told : Option Content) → KeepsRules told (along (xs ++ x ∷ [])) → x.draft.class.name ≡ sought_name name xs → KeepsRules told (along xs)
  rules_pop None rules named = tt
  rules_pop (Some content) rules named =
      let w = world_of c content in
      let r = frame_pop w [] loader _ name _ (map frame_of xs) (frame_of x) (ruled_ends c content loader name xs x _ _ rules) in
      subst (λ (n : List ℕ). Ruled c content loader name xs (asking_loader loader (map frame_of xs)) n) named r.0

  pub path_pop : IsPath told (along (xs ++ x ∷ [])) → IsPath told (along xs)
  path_pop path =
      let s = stand_pop c loader name xs x path.stand in
      record {
        stand = s.0;
        drafts = (all_pop (λ (x : Framed). IsDraft told x.draft) xs x path.drafts).0;
        rules = rules_pop told path.rules s.1.named;
        counted = let n = length-append xs (x ∷ []) in let less = path.counted in omega arith;
      }

  -- ---- the last goes on

  rules_accept : (told : Option Content) (definer : ℕ) → FitsNext told c x definer → IsSome (wanted_supertype (frame_of x)) → IsSome (wanted_supertype (frame_of (with_definer x definer))) → KeepsRules told (along (xs ++ x ∷ [])) → KeepsRules told (along (xs ++ with_definer x definer ∷ []))
  rules_accept None definer fits waits more rules = tt
  rules_accept (Some content) definer fits waits more rules =
      let w = world_of c content in
      let next = with_definer x definer in
      let a = some_of (wanted_supertype (frame_of x)) waits in
      let b = some_of (wanted_supertype (frame_of next)) more in
      let t = class a.0.name definer in
      let framed : frame_of next ≡ with_accepted (frame_of x) t = subst (λ (o : Option Above). IfSome o (λ a. frame_of next ≡ with_accepted (frame_of x) (class a.name definer))) a.1 (accepts_one x next definer refl (wanted_supertype (frame_of x)) refl) in
      let went = frame_accept w [] loader _ name _ (map frame_of xs) (frame_of x) a.0 b.0 t (ruled_ends c content loader name xs x _ _ rules) a.1 refl (fits a.0 a.1) (subst (λ (y : Frame). wanted_supertype y ≡ Some b.0) framed b.1) in
      ruled_end c content loader name xs next b.0 b.1 (subst (λ (y : Frame). IsFrames w [] loader name (map frame_of xs ++ y ∷ []) x.draft.class.loader b.0.name) (sym framed) went)

  pub path_accept : (definer : ℕ) → IsPath told (along (xs ++ x ∷ [])) → FitsNext told c x definer → IsSome (wanted_supertype (frame_of (with_definer x definer))) → IsPath told (along (xs ++ with_definer x definer ∷ []))
  path_accept definer path fits more =
      let s = stand_pop c loader name xs x path.stand in
      let d = all_pop (λ (x : Framed). IsDraft told x.draft) xs x path.drafts in
      record {
        stand = stand_push c loader name xs (with_definer x definer) s.0 (record { config = s.1.config; asked = s.1.asked; named = s.1.named; waits = more });
        drafts = all_push (λ (x : Framed). IsDraft told x.draft) xs (with_definer x definer) d.0 d.1;
        rules = rules_accept told definer fits s.1.waits more path.rules;
        counted = let n = length-append xs (x ∷ []) in let m = length-append xs (with_definer x definer ∷ []) in let less = path.counted in omega arith;
      }
