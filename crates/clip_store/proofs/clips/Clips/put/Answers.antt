-- The pairs become what the map's entries become, and where it wants memory there was no room.
use Rattle.std.proofs.Common.{◌≡◌, ◌+◌, ◌∙◌, false, None, option_map, sym, ap, subst, arith}
use Rattle.std.specs.List.{IsDistinct}
use Rattle.std.specs.Map.{keys_of}
use Rattle.std.specs.Str.{bytes_eq}
use Rattle.clip_store.specs.PlainFragment.{plain_fragment, slots_of}
use Rattle.clip_store.specs.PlainClips.{clip_named, slots_held, with_clip, without_name}
use Rattle.clip_store.specs.ClipLimit.{AreClips, IsClip, is_full, has_room}
use Rattle.clip_store.specs.Private.ClipsView.{pairs_of, seen}
use Rattle.clip_store.proofs.MapPairs.{clip_named-pairs, given_holds, keys_of-pairs, with_clip-pairs}
use Rattle.clip_store.proofs.PutPairs.{slots_held-with_clip}
use Rattle.clip_store.proofs.ClipLimits.{AreClips-with_clip, IsClip-named, fits, no_room, too_many}
use Rattle.clip_store.proofs.clips.Clips.put.Goals as goal

pub invariant_of-self : goal.invariant_of-self
invariant_of-self c =
    let fragment = plain_fragment c.args.fragment in
    let pairs = pairs_of c.self.inside.fragments.entries in
    let entries = c.insert.new.self.entries in
    let made : pairs_of entries ≡ with_clip c.args.name fragment pairs =
    ap pairs_of c.in-Ok.ensures.entries ∙ with_clip-pairs c.args.name c.args.fragment c.self.inside.fragments.entries in
    let once : IsDistinct bytes_eq (keys_of (pairs_of entries)) = rw (keys_of-pairs entries) c.in-Ok.ensures.unique in
    let full : is_full c.args.name (slots_of fragment) pairs ≡ false =
    subst (λ clips. is_full c.args.name (slots_of fragment) clips.pairs ≡ false) (sym c.self.view_is)
    (fits c.args.name (slots_of fragment) c.in-Some.slots c.args.self.now.pairs c.would_hold.result
    c.would_hold.ensures c.if-not-would_hold.false c.in-Some.ensures.within) in
    let others : c.other_slots-others.result ≡ slots_held (without_name c.args.name pairs) =
    subst (λ clips. c.other_slots-others.result ≡ slots_held (without_name c.args.name clips.pairs)) (sym c.self.view_is)
    c.other_slots-others.ensures.sum in
    record {
      clips =
          subst AreClips (sym made)
          (AreClips-with_clip c.args.name fragment pairs c.self.invariant.clips c.requires.fragment full
          (subst (λ all. IsDistinct bytes_eq (keys_of all)) made once));
      slots =
          subst (λ all. c.other_slots-others.result + c.in-Some.slots ≡ slots_held all) (sym made)
          (omega (arith, slots_held-with_clip c.args.name fragment pairs, c.in-Some.ensures.within));
    }

pub returns-in_default-clause-cause : goal.returns-in_default-clause-cause
returns-in_default-clause-cause c =
    too_many c.args.name (slots_of (plain_fragment c.args.fragment)) c.args.self.now.pairs c.in_default.ensures.over

pub returns-in_default-clause-succeeds : goal.returns-in_default-clause-succeeds
returns-in_default-clause-succeeds c = λ full room. sym full ∙ returns-in_default-clause-cause c

pub returns-in-Ok-clause-put : goal.returns-in-Ok-clause-put
returns-in-Ok-clause-put c =
    rw (← c.self.view_is)
    (ap pairs_of c.in-Ok.ensures.entries ∙ with_clip-pairs c.args.name c.args.fragment c.self.inside.fragments.entries)

pub returns-in-Ok-clause-replaced : goal.returns-in-Ok-clause-replaced
returns-in-Ok-clause-replaced c =
    rw (← c.self.view_is)
    (ap (option_map plain_fragment) c.in-Ok.ensures.old ∙ clip_named-pairs c.args.name c.self.inside.fragments.entries)

pub returns-in-Ok-clause-clip : goal.returns-in-Ok-clause-clip
returns-in-Ok-clause-clip c =
    let pairs = pairs_of c.self.inside.fragments.entries in
    given_holds IsClip c.in-Ok.old (clip_named c.args.name pairs)
    (ap (option_map plain_fragment) c.in-Ok.ensures.old ∙ clip_named-pairs c.args.name c.self.inside.fragments.entries)
    (IsClip-named c.args.name pairs c.self.invariant.clips)

pub returns-in-Err-clause-cause : goal.returns-in-Err-clause-cause
returns-in-Err-clause-cause c =
    let fragment = plain_fragment c.args.fragment in
    let absent : clip_named c.args.name (pairs_of c.self.inside.fragments.entries) ≡ None =
    sym (clip_named-pairs c.args.name c.self.inside.fragments.entries) ∙ ap (option_map plain_fragment) c.in-Err.ensures.absent in (
      fits c.args.name (slots_of fragment) c.in-Some.slots c.args.self.now.pairs c.would_hold.result
          c.would_hold.ensures c.if-not-would_hold.false c.in-Some.ensures.within,
      subst (λ clips. has_room c.args.name clips ≡ false) c.self.view_is
          (no_room c.args.name (seen c.self.inside) absent c.in-Err.ensures.succeeds),
    )

pub returns-in-Err-clause-refused : goal.returns-in-Err-clause-refused
returns-in-Err-clause-refused c = (
  ap (λ pair. pair.1) c.in-Err.ensures.value_returned,
  rw (← c.self.view_is) (ap pairs_of c.in-Err.ensures.err),
)

pub returns-in-Err-clause-succeeds : goal.returns-in-Err-clause-succeeds
returns-in-Err-clause-succeeds c = λ fits room. sym (returns-in-Err-clause-cause c).1 ∙ room
