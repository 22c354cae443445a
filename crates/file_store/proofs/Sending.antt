-- Bytes that are passed on to files, one after the other.
use Rattle.std.specs.Prelude.{◌≡◌, refl, ℕ, ◌+◌, ◌<◌, ◌≤◌, List, [], ◌∷◌, ◌++◌, length, replicate, Bool, true, false, take, drop, Option, Some, None, Result, Ok, Err, IsErrOf}
use Rattle.std.specs.Io.KnownBytes.{Appends, IsAtEnd, append_known}
use Rattle.std.proofs.Common.{ap, sym, ◌∙◌, ◌⊎◌, arith, append_assoc, inl, inr, subst}
use Rattle.std.proofs.lemmas.List.{append-nil, replicate-append-replicate, take-append-drop}
use Rattle.std.proofs.Math.Bool.{false≢true}
use Rattle.std.proofs.lemmas.Option.{none-some}
use Rattle.plcs_base.specs.Count.{Rose, raised}
use Rattle.plcs_base.specs.Put.{PutsAll, puts_nothing, puts_next}
use Rattle.synth_outside.specs.Cause.{RisesWith}
use Rattle.synth_outside.specs.Files.{NewContent, PlainFiles, begun_bytes, begun_name}
use Rattle.synth_outside.specs.Source.{IsZeroAtEnd}
use Rattle.synth_outside.specs.declared.faults.FilesFault.{FilesFault}
use Rattle.file_store.specs.Private.Desk.{Came, Desk, Sent, Written, desk, with_wait}
use Rattle.file_store.proofs.Fillings.{some_is}

pub appends_nothing : (a : Option (List ℕ)) → Appends a a []
appends_nothing None = tt
appends_nothing (Some x) = sym (append-nil x)

pub appends_more : (a b c : Option (List ℕ)) (x y : List ℕ) → Appends a b x → Appends b c y → Appends a c (x ++ y)
appends_more None b c x y h k = tt
appends_more (Some a) None c x y h k = absurd h
appends_more (Some a) (Some b) None x y h k = absurd k
appends_more (Some a) (Some b) (Some c) x y h k = k ∙ ap (λ z. z ++ y) h ∙ append_assoc a x y

-- a count over two moments
rises_same : (A : Type 0) (n : ℕ) → (A → ⊥) → RisesWith A n n
rises_same A n h = record { later = omega arith; rose = λ a. absurd (h a); same = λ a. refl; last = λ e. refl }

rises_more : (A B C : Type 0) (a b c : ℕ) → RisesWith A a b → RisesWith B b c → (C → (A ⊎ B)) → (A → C) → (B → C) → RisesWith C a c
rises_more A B C a b c f g split one two =
    record {
      later = omega (arith, f.later, g.later);
      rose = λ h. go (split h);
      same = λ h. g.same (λ k. h (two k)) ∙ f.same (λ k. h (one k));
      last = λ e. g.last (f.last e ∙ e) ∙ f.last e;
    }
  where
    go : A ⊎ B → Rose a c
    go (inl k) = rose_on a b c (f.rose k) g.later
      where
        rose_on : (a b c : ℕ) → raised a ≤ b → b ≤ c → raised a ≤ c
        rose_on a b c h k = omega (arith, h, k)
    go (inr k) = rose_off a b c f.later (g.rose k)
      where
        rose_off : (a b c : ℕ) → a ≤ b → raised b ≤ c → raised a ≤ c
        rose_off a b c h k = omega (arith, h, k)

came_twice : (fault : FilesFault) (a b c : Desk) (x y : List ℕ) → Sent a x b → Sent b y c → Came fault a c → Came fault a b ⊎ Came fault b c
came_twice fault a b c x y f g h = go b.fault refl
  where
    go : (o : Option FilesFault) → b.fault ≡ o → Came fault a b ⊎ Came fault b c
    go None e = inr (e, h.1)
    go (Some own) e = inl (h.0, e ∙ sym (g.kept own e) ∙ h.1)

pub sent_more : (a b c : Desk) (x y : List ℕ) → Sent a x b → Sent b y c → Sent a (x ++ y) c
sent_more a b c x y f g =
    record {
      stored = g.stored ∙ f.stored;
      name = g.name ∙ f.name;
      unfailed = λ e. f.unfailed (g.unfailed e);
      told = λ e. appends_more (with_wait a) (with_wait b) (with_wait c) x y (f.told (g.unfailed e)) (g.told e);
      kept = λ fault e. g.kept fault (f.kept fault e);
      found = λ e. f.found (g.found e);
      faults = rises_more _ _ _ a.told.faults b.told.faults c.told.faults f.faults g.faults (came_twice FilesFault.Failed a b c x y f g)
          (λ h. (h.0, g.kept FilesFault.Failed h.1)) (λ h. (f.unfailed h.0, h.1));
      wants = rises_more _ _ _ a.told.wants b.told.wants c.told.wants f.wants g.wants (came_twice FilesFault.OutOfMemory a b c x y f g)
          (λ h. (h.0, g.kept FilesFault.OutOfMemory h.1)) (λ h. (f.unfailed h.0, h.1));
    }

pub sent_nothing : (a : Desk) → Sent a [] a
sent_nothing a =
    record {
      stored = refl;
      name = refl;
      unfailed = λ e. e;
      told = λ e. appends_nothing (with_wait a);
      kept = λ fault e. e;
      found = λ e. e;
      faults = rises_same _ a.told.faults (λ h. none-some FilesFault.Failed (sym h.0 ∙ h.1));
      wants = rises_same _ a.told.wants (λ h. none-some FilesFault.OutOfMemory (sym h.0 ∙ h.1));
    }

pub all_sent : {Out : Type 0} (puts : Out → ℕ → Out → Type 0) (desk : Out → Desk)
    → ((a c : Out) (b : ℕ) → puts a b c → Sent (desk a) (b ∷ []) (desk c))
    → {before after : Out} {bytes : List ℕ} → PutsAll puts before bytes after → Sent (desk before) bytes (desk after)
all_sent puts desk each {before = before} puts_nothing = sent_nothing (desk before)
all_sent puts desk each {before = before} {after = after} (puts_next {between = between} {byte = byte} {bytes = bytes} h rest) =
    sent_more (desk before) (desk between) (desk after) (byte ∷ []) bytes (each before between byte h) (all_sent puts desk each rest)

-- ---- what one call does

rises_to : (A B : Type 0) (a b : ℕ) → (B → A) → (A → B) → RisesWith A a b → RisesWith B a b
rises_to A B a b f g h = record { later = h.later; rose = λ k. h.rose (f k); same = λ k. h.same (λ j. k (g j)); last = h.last }

-- bytes wait
pub waits : (d : Desk) (bytes : List ℕ) → Sent d bytes (record d { wait = d.wait ++ bytes })
waits d bytes =
    record {
      stored = refl;
      name = refl;
      unfailed = λ e. e;
      told = λ e. go (begun_bytes d.begun);
      kept = λ fault e. e;
      found = λ e. e;
      faults = rises_same _ d.told.faults (λ h. none-some FilesFault.Failed (sym h.0 ∙ h.1));
      wants = rises_same _ d.told.wants (λ h. none-some FilesFault.OutOfMemory (sym h.0 ∙ h.1));
    }
  where
    go : (o : Option (List ℕ)) → Appends (append_known o d.wait) (append_known o (d.wait ++ bytes)) bytes
    go None = tt
    go (Some x) = sym (append_assoc x d.wait bytes)

-- bytes that were sent behind another one are sent once that waits
sent_behind : (a c : Desk) (byte : ℕ) (bytes : List ℕ) → Sent a (byte ∷ bytes) c → Sent (record a { wait = a.wait ++ (byte ∷ []) }) bytes c
sent_behind a c byte bytes h =
    record {
      stored = h.stored;
      name = h.name;
      unfailed = h.unfailed;
      told = λ e. go (begun_bytes a.begun) (with_wait c) (h.told e);
      kept = h.kept;
      found = h.found;
      faults = h.faults;
      wants = h.wants;
    }
  where
    go : (o now : Option (List ℕ)) → Appends (append_known o a.wait) now (byte ∷ bytes)
        → Appends (append_known o (a.wait ++ (byte ∷ []))) now bytes
    go None now e = tt
    go (Some x) None e = absurd e
    go (Some x) (Some y) e =
        e ∙ sym (append_assoc (x ++ a.wait) (byte ∷ []) bytes) ∙ ap (λ z. z ++ bytes) (append_assoc x a.wait (byte ∷ []))

-- bytes that were sent at once are put one after the other: each but the last waits
puts_in_turn : {Out Name : Type 0} (seen : Out → Desk) (name : Out → Name) (with_one : Out → ℕ → Out)
    → ((out : Out) (byte : ℕ) → seen (with_one out byte) ≡ record (seen out) { wait = (seen out).wait ++ (byte ∷ []) })
    → ((out : Out) (byte : ℕ) → name (with_one out byte) ≡ name out)
    → (before after : Out) (byte : ℕ) (bytes : List ℕ) → Sent (seen before) (byte ∷ bytes) (seen after) → name after ≡ name before
    → PutsAll (λ a b c. Sent (seen a) (b ∷ []) (seen c) × (name c ≡ name a)) before (byte ∷ bytes) after
puts_in_turn seen name with_one one same before after byte [] h e = puts_next (h, e) puts_nothing
puts_in_turn seen name with_one one same before after byte (next ∷ bytes) h e =
    puts_next
    (subst (λ d. Sent (seen before) (byte ∷ []) d) (sym (one before byte)) (waits (seen before) (byte ∷ [])), same before byte)
    (puts_in_turn seen name with_one one same (with_one before byte) after next bytes
    (subst (λ d. Sent d (next ∷ bytes) (seen after)) (sym (one before byte)) (sent_behind (seen before) (seen after) byte (next ∷ bytes) h))
    (e ∙ sym (same before byte)))

-- so are bytes of which there are some
pub puts_at_once : {Out Name : Type 0} (seen : Out → Desk) (name : Out → Name) (with_one : Out → ℕ → Out)
    → ((out : Out) (byte : ℕ) → seen (with_one out byte) ≡ record (seen out) { wait = (seen out).wait ++ (byte ∷ []) })
    → ((out : Out) (byte : ℕ) → name (with_one out byte) ≡ name out)
    → (before after : Out) (bytes : List ℕ) → 0 < length bytes → Sent (seen before) bytes (seen after) → name after ≡ name before
    → PutsAll (λ a b c. Sent (seen a) (b ∷ []) (seen c) × (name c ≡ name a)) before bytes after
puts_at_once seen name with_one one same before after [] some h e = absurd (omega (arith, some))
puts_at_once seen name with_one one same before after (byte ∷ bytes) some h e =
    puts_in_turn seen name with_one one same before after byte bytes h e

puts_to_wait : {Out Name : Type 0} (seen : Out → Desk) (name : Out → Name) (with_wait : List ℕ → Out) (d : Desk) (own : Name)
    → ((wait : List ℕ) → seen (with_wait wait) ≡ record d { wait = wait }) → ((wait : List ℕ) → name (with_wait wait) ≡ own)
    → (wait bytes : List ℕ)
    → PutsAll (λ a b c. Sent (seen a) (b ∷ []) (seen c) × (name c ≡ name a)) (with_wait wait) bytes (with_wait (wait ++ bytes))
puts_to_wait seen name with_wait d own seen_is name_is wait [] =
    subst (λ z. PutsAll (λ a b c. Sent (seen a) (b ∷ []) (seen c) × (name c ≡ name a)) (with_wait wait) [] (with_wait z))
    (sym (append-nil wait)) puts_nothing
puts_to_wait seen name with_wait d own seen_is name_is wait (byte ∷ bytes) =
    let more = wait ++ (byte ∷ []) in
    let one : Sent (seen (with_wait wait)) (byte ∷ []) (seen (with_wait more)) =
    subst (λ z. Sent z (byte ∷ []) (seen (with_wait more))) (sym (seen_is wait))
    (subst (λ z. Sent (record d { wait = wait }) (byte ∷ []) z) (sym (seen_is more)) (waits (record d { wait = wait }) (byte ∷ []))) in
    puts_next (one, name_is more ∙ sym (name_is wait))
    (subst (λ z. PutsAll (λ a b c. Sent (seen a) (b ∷ []) (seen c) × (name c ≡ name a)) (with_wait more) bytes (with_wait z))
    (append_assoc wait (byte ∷ []) bytes) (puts_to_wait seen name with_wait d own seen_is name_is more bytes))

-- bytes that only come to wait are put, however many, up to the last value, which may differ in what proves the rest of it
pub puts_waiting : {Out Name : Type 0} (seen : Out → Desk) (name : Out → Name) (with_wait : List ℕ → Out) (d : Desk) (own : Name)
    → ((wait : List ℕ) → seen (with_wait wait) ≡ record d { wait = wait }) → ((wait : List ℕ) → name (with_wait wait) ≡ own)
    → (wait bytes after : List ℕ) (last : Out) → after ≡ wait ++ bytes → with_wait after ≡ last
    → PutsAll (λ a b c. Sent (seen a) (b ∷ []) (seen c) × (name c ≡ name a)) (with_wait wait) bytes last
puts_waiting seen name with_wait d own seen_is name_is wait bytes after last is last_is =
    subst (λ z. PutsAll (λ a b c. Sent (seen a) (b ∷ []) (seen c) × (name c ≡ name a)) (with_wait wait) bytes z)
    (ap with_wait (sym is) ∙ last_is) (puts_to_wait seen name with_wait d own seen_is name_is wait bytes)

-- a byte that is sent once more
pub sent_again : (a b c : Desk) (times byte : ℕ) → Sent a (replicate times byte) b → Sent b (byte ∷ []) c → Sent a (replicate (times + 1) byte) c
sent_again a b c times byte h one =
    subst (λ z. Sent a z c) (replicate-append-replicate times 1 byte) (sent_more a b c (replicate times byte) (byte ∷ []) h one)

-- bytes are sent in two parts, once what waits was passed on
pub sent_in_parts : (a b c d : Desk) (bytes front later : List ℕ) → bytes ≡ front ++ later → Sent a [] b → Sent b front c → Sent c later d → Sent a bytes d
sent_in_parts a b c d bytes front later is f g h =
    subst (λ z. Sent a z d) (sym is) (sent_more a b d [] (front ++ later) f (sent_more b c d front later g h))

passed_bytes : (a b : Option (List ℕ)) (wait : List ℕ) → Appends a b wait → Appends (append_known a wait) (append_known b []) []
passed_bytes None b wait h = tt
passed_bytes (Some x) None wait h = absurd h
passed_bytes (Some x) (Some y) wait h = ap (λ z. z ++ []) h

-- what waits was passed on, or a fault came
pub passed : (before now : PlainFiles) (begun now_begun : Option NewContent) (wait : List ℕ) (fault : Option FilesFault)
    → now.stored ≡ before.stored → begun_name now_begun ≡ begun_name begun
    → (fault ≡ None → Appends (begun_bytes begun) (begun_bytes now_begun) wait) → (fault ≡ Some FilesFault.NoFile → ⊥)
    → RisesWith (fault ≡ Some FilesFault.Failed) before.faults now.faults
    → RisesWith (fault ≡ Some FilesFault.OutOfMemory) before.wants now.wants
    → Sent (desk before begun wait None) [] (desk now now_begun [] fault)
passed before now begun now_begun wait fault s n told found f w =
    record {
      stored = s;
      name = n;
      unfailed = λ e. refl;
      told = λ e. passed_bytes (begun_bytes begun) (begun_bytes now_begun) wait (told e);
      kept = λ own e. absurd (none-some own e);
      found = λ e. absurd (found e);
      faults = rises_to (fault ≡ Some FilesFault.Failed) _ before.faults now.faults (λ h. h.1) (λ h. (refl, h)) f;
      wants = rises_to (fault ≡ Some FilesFault.OutOfMemory) _ before.wants now.wants (λ h. h.1) (λ h. (refl, h)) w;
    }

-- after a fault nothing is passed on any more
pub dropped : (d : Desk) (fault : FilesFault) → d.fault ≡ Some fault → Sent d [] (record d { wait = [] })
dropped d fault is =
    record {
      stored = refl;
      name = refl;
      unfailed = λ e. e;
      told = λ e. absurd (none-some fault (sym e ∙ is));
      kept = λ own e. e;
      found = λ e. e;
      faults = rises_same _ d.told.faults (λ h. none-some FilesFault.Failed (sym h.0 ∙ h.1));
      wants = rises_same _ d.told.wants (λ h. none-some FilesFault.OutOfMemory (sym h.0 ∙ h.1));
    }

-- ---- a piece

pub cut_piece : (before now after : Option (List ℕ)) (count : ℕ) (rest more : List ℕ) → more ≡ drop count rest
    → Appends before now (take count rest) → Appends now after more → Appends before after rest
cut_piece before now after count rest more is h k =
    subst (λ z. Appends before after z) (take-append-drop count rest)
    (appends_more before now after (take count rest) (drop count rest) h (subst (λ z. Appends now after z) is k))

-- ---- answers and faults

err_or : {T E : Type 0} → E → Result T E → E
err_or e (Ok x) = e
err_or e (Err own) = own

is_err : {T E : Type 0} → Result T E → Bool
is_err (Ok x) = false
is_err (Err e) = true

pub cause_ok : {T : Type 0} (x : T) (fault : Option FilesFault) (wanted : FilesFault) (a b : ℕ) → RisesWith (fault ≡ Some wanted) a b → fault ≡ None
    → RisesWith (Ok x ≡ Err wanted) a b
unfolding is_err
cause_ok x fault wanted a b h is =
    rises_to (fault ≡ Some wanted) (Ok x ≡ Err wanted) a b (λ e. absurd (false≢true (ap is_err e))) (λ e. absurd (none-some wanted (sym is ∙ e))) h

pub cause_err : {T : Type 0} (fault : Option FilesFault) (own wanted : FilesFault) (a b : ℕ) → RisesWith (fault ≡ Some wanted) a b → fault ≡ Some own
    → RisesWith (IsErrOf {T = T} {E = FilesFault} (Err own) wanted) a b
unfolding err_or
cause_err {T = T} fault own wanted a b h is =
    rises_to (fault ≡ Some wanted) (IsErrOf {T = T} {E = FilesFault} (Err own) wanted) a b
    (λ e. is ∙ ap (λ z. Some z) (ap (err_or {T = T} {E = FilesFault} own) e))
    (λ e. ap (λ z. let r : Result T FilesFault = Err z in r) (some_is (sym is ∙ e))) h

-- ---- the whole listing

no_wait : (a b : Option (List ℕ)) (wait bytes : List ℕ) → wait ≡ [] → Appends (append_known a []) (append_known b wait) bytes → Appends a b bytes
no_wait None b wait bytes e h = tt
no_wait (Some x) None wait bytes e h = absurd h
no_wait (Some x) (Some y) wait bytes e h = sym (append-nil y) ∙ ap (λ z. y ++ z) (sym e) ∙ h ∙ ap (λ z. z ++ bytes) (append-nil x)

pub written : (a c : Desk) (x : List ℕ) → Sent a x c → a.wait ≡ [] → a.fault ≡ None → c.wait ≡ []
    → Written a.told a.begun x c.told c.begun c.fault
written a c x h none fine empty =
    record {
      stored = h.stored;
      name = h.name;
      told = λ e. no_wait (begun_bytes a.begun) (begun_bytes c.begun) c.wait x empty
          (subst (λ z. Appends (append_known (begun_bytes a.begun) z) (with_wait c) x) none (h.told e));
      found = λ e. none-some FilesFault.NoFile (sym fine ∙ h.found e);
      faults = rises_to (Came FilesFault.Failed a c) (c.fault ≡ Some FilesFault.Failed) a.told.faults c.told.faults (λ e. (fine, e)) (λ e. e.1) h.faults;
      wants = rises_to (Came FilesFault.OutOfMemory a c) (c.fault ≡ Some FilesFault.OutOfMemory) a.told.wants c.told.wants (λ e. (fine, e)) (λ e. e.1) h.wants;
    }

pub written_more : (a b c : Desk) (x : List ℕ) → Sent a x b → Sent b [] c → a.wait ≡ [] → a.fault ≡ None → c.wait ≡ []
    → Written a.told a.begun x c.told c.begun c.fault
written_more a b c x h k none fine empty =
    written a c x (subst (λ z. Sent a z c) (append-nil x) (sent_more a b c x [] h k)) none fine empty

-- ---- the end of a file

pub zero_at_end : (before : Option (List ℕ)) (n : ℕ) → IsZeroAtEnd before n → n ≡ 0 → IsAtEnd before
zero_at_end None n h e = tt
zero_at_end (Some left) n h e = h.0 e

-- ---- what stays over many bytes

pub all_kept : {Out Name : Type 0} (puts : Out → ℕ → Out → Type 0) (name : Out → Name) → ((a c : Out) (b : ℕ) → puts a b c → name c ≡ name a)
    → {before after : Out} {bytes : List ℕ} → PutsAll puts before bytes after → name after ≡ name before
all_kept puts name each puts_nothing = refl
all_kept puts name each {before = before} (puts_next {between = between} {byte = byte} h rest) = all_kept puts name each rest ∙ each before between byte h
