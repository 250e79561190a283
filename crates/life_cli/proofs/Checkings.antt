-- What a check and its end come to.
use Rattle.std.proofs.Common.{◌≡◌, ◌++◌, inl, inr, ◌∷◌, [], ℕ, Bool, true, false, List, Option, None, Some, String, Global, IsNone, IsSome, IsTrue, slice_get, true≢false, refl, sym, ap, ◌∙◌, subst}
use Rattle.std.specs.Option.{IfSome, MatchOption}
use Rattle.life_bytes.specs.declared.sector.Sector.{Sector}
use Rattle.life_ports.specs.Faults.{Rose}
use Rattle.disk_model.specs.Disk.{Cell, HasOneImage, as_read, settled_as}
use Rattle.disk_model.specs.Images.{attached}
use Rattle.geometry.specs.Shape.{IsGeometry}
use Rattle.geometry.specs.declared.shape.Damaged.{Damaged}
use Rattle.inspect.specs.declared.fault.InspectFault.{InspectFault}
use Rattle.inspect.specs.declared.fault.InspectFault.TheVariants as fault
use Rattle.inspect.specs.Faults.{NamesFirstDamage}
use Rattle.inspect.specs.Inspected.{IsSoundWith}
use Rattle.whole_image.specs.Damage.{FirstDamage, ImageRule, IsFirstDamage, IsSound, image_rule_number}
use Rattle.script.specs.declared.status.Status.{Status}
use Rattle.script.specs.declared.status.Status.TheVariants as status
use Rattle.life_table.specs.declared.types.MountRecord.{MountRecord}
use Rattle.script.specs.declared.answers.GroupStory.{GroupStory}
use Rattle.script.specs.declared.answers.Said.{Said}
use Rattle.life_cli.specs.declared.checking.Numbers.{Numbers}
use Rattle.life_cli.specs.Checking.{EndsCheck, IsChecking, IsRightAbout, RunsCheck, fault_status}
use Rattle.life_cli.specs.Form.{IsCheck}
use Rattle.life_cli.specs.Outcome.{IsEarly, IsGiven, Yields}
use Rattle.life_cli.specs.Outside.{ImagesSeen, image_known}
use Rattle.life_cli.proofs.Makings.{own_status}

-- that an image has at most one first damage, and none where it is sound
pub record OneDamage : Type 0 where
  pub one : (image : List Sector) (a b : ImageRule) (s t : ℕ) → FirstDamage image a s → FirstDamage image b t → (a ≡ b) × (s ≡ t)
  pub none : (image : List Sector) (a : ImageRule) (s : ℕ) → IsSound image → FirstDamage image a s → ⊥

-- a check that found an image sound
pub sound_is_right : OneDamage → (image : List Sector) (n : Numbers) (next : ℕ) → IsSoundWith image n.geometry n.tables next → IsRightAbout image status.Good (Some n)
sound_is_right law image n next sound = record {
  sound = (next, sound);
  first_damage = λ (rule sector : ℕ) (is : status.Good ≡ status.Damaged rule sector). absurd cc;
  complete = λ is. inr (inl refl);
  exact = λ damage is. absurd (law.none image is.0 damage.sector sound.represents.sound is.2);
}

named : (image : List Sector) (rule sector r s : ℕ) → IsFirstDamage image (record { rule = rule; sector = sector }) → status.Damaged rule sector ≡ status.Damaged r s
    → IsFirstDamage image (record { rule = r; sector = s })
named image rule sector r s damage is =
    let rules : rule ≡ r = cc in
    let sectors : sector ≡ s = cc in
    subst (λ (n : ℕ). IsFirstDamage image (record { rule = n; sector = s })) rules
    (subst (λ (n : ℕ). IsFirstDamage image (record { rule = rule; sector = n })) sectors damage)

exactly : OneDamage → (image : List Sector) (rule sector : ℕ) (damage : Damaged) → IsFirstDamage image (record { rule = rule; sector = sector })
    → IsFirstDamage image damage → status.Damaged rule sector ≡ status.Damaged damage.rule damage.sector
exactly law image rule sector damage found is =
    let same = law.one image found.0 is.0 sector damage.sector found.2 is.2 in
    let rules : image_rule_number found.0 ≡ image_rule_number is.0 = ap image_rule_number same.0 in
    let numbers : rule ≡ damage.rule = found.1 ∙ rules ∙ sym is.1 in
    let sectors : sector ≡ damage.sector = same.1 in
    cc

-- a check that found a fault
pub fault_is_right : OneDamage → (image : List Sector) (it : InspectFault) → NamesFirstDamage image it → IsRightAbout image (fault_status it) None
fault_is_right law image (fault.Damaged rule sector) damage = record {
  sound = tt;
  first_damage = λ (r s : ℕ) is. named image rule sector r s damage is;
  complete = λ sound. absurd (law.none image damage.0 sector sound damage.2);
  exact = λ other is. inr (inl (exactly law image rule sector other damage is));
}
fault_is_right law image fault.ReadFault damage = record {
  sound = tt;
  first_damage = λ (r s : ℕ) (is : status.ReadFault ≡ status.Damaged r s). absurd cc;
  complete = λ sound. inl refl;
  exact = λ other is. inl refl;
}
fault_is_right law image fault.NoMemory damage = record {
  sound = tt;
  first_damage = λ (r s : ℕ) (is : status.NoMemory ≡ status.Damaged r s). absurd cc;
  complete = λ sound. inr (inr (inr refl));
  exact = λ other is. inr (inr (inr refl));
}

-- what a fault of an inspection comes to
pub fault_ends : (it : InspectFault) → EndsCheck (fault_status it)
fault_ends (fault.Damaged rule sector) = tt
fault_ends fault.ReadFault = tt
fault_ends fault.NoMemory = tt

fault_read : {P : Type 0} (it : InspectFault) → (it ≡ fault.ReadFault → P) → fault_status it ≡ status.ReadFault → P
fault_read (fault.Damaged rule sector) rose is =
    let bad : status.Damaged rule sector ≡ status.ReadFault = is in
    absurd cc
fault_read fault.ReadFault rose is = rose refl
fault_read fault.NoMemory rose is =
    let bad : status.NoMemory ≡ status.ReadFault = is in
    absurd cc

fault_given : (it : InspectFault) → fault_status it ≡ status.OpenFault → ⊥
fault_given (fault.Damaged rule sector) is =
    let bad : status.Damaged rule sector ≡ status.OpenFault = is in
    absurd cc
fault_given fault.ReadFault is =
    let bad : status.ReadFault ≡ status.OpenFault = is in
    absurd cc
fault_given fault.NoMemory is =
    let bad : status.NoMemory ≡ status.OpenFault = is in
    absurd cc

fault_good : {P : Type 0} (it : InspectFault) → fault_status it ≡ status.Good → P
fault_good (fault.Damaged rule sector) is =
    let bad : status.Damaged rule sector ≡ status.Good = is in
    absurd cc
fault_good fault.ReadFault is =
    let bad : status.ReadFault ≡ status.Good = is in
    absurd cc
fault_good fault.NoMemory is =
    let bad : status.NoMemory ≡ status.Good = is in
    absurd cc

-- a disk that holds what it held when it was found sound
pub checked_sound : OneDamage → (known : Bool) (old cells : List Cell) (before after : ℕ) (n : Numbers) → cells ≡ old
    → (IsTrue known → (next : ℕ) × IsSoundWith (as_read old) n.geometry n.tables next) → IsGeometry n.geometry → IsChecking known cells before after status.Good (Some n)
checked_sound law known old cells before after n same sound shape = record {
  right = λ tells. subst (λ (l : List Cell). IsRightAbout (as_read l) status.Good (Some n)) (sym same)
      (sound_is_right law (as_read old) n (sound tells).0 (sound tells).1);
  numbers = λ good. refl;
  within = shape;
  read_fault = λ (is : status.Good ≡ status.ReadFault). absurd cc;
  given = λ (is : status.Good ≡ status.OpenFault). absurd cc;
}

-- or when a fault was found
pub checked_fault : OneDamage → (known : Bool) (old cells : List Cell) (before after : ℕ) (it : InspectFault) → cells ≡ old
    → (IsTrue known → NamesFirstDamage (as_read old) it) → (it ≡ fault.ReadFault → Rose before after) → IsChecking known cells before after (fault_status it) None
checked_fault law known old cells before after it same damage rose = record {
  right = λ tells. subst (λ (l : List Cell). IsRightAbout (as_read l) (fault_status it) None) (sym same) (fault_is_right law (as_read old) it (damage tells));
  numbers = λ good. fault_good it good;
  within = tt;
  read_fault = fault_read it rose;
  given = fault_given it;
}

-- the same of what is told in another way
pub checked_told : {D : Type 0} (known : Bool) (cells : D → List Cell) (faults : D → ℕ) (before : ℕ) (disk : Option D) (d : D) (own own' : Status)
    (found found' : Option Numbers) → disk ≡ Some d → own' ≡ own → found' ≡ found → IsChecking known (cells d) before (faults d) own found
    → IfSome disk (λ after. IsChecking known (cells after) before (faults after) own' found')
checked_told known cells faults before disk d own own' found found' is e f checked =
    subst (λ (o : Option _). IfSome o (λ after. IsChecking known (cells after) before (faults after) own' found')) (sym is)
    (subst (λ (s : Status). IsChecking known (cells d) before (faults d) s found') (sym e)
    (subst (λ (o : Option Numbers). IsChecking known (cells d) before (faults d) own o) (sym f) checked))

held_at : (known : Bool) (at : Option (List Sector)) (old cells : List Cell) → cells ≡ old → (IsTrue known → IfSome at (λ image. old ≡ settled_as image))
    → IfSome (image_known known at) (λ held. cells ≡ settled_as held)
held_at false at old cells same given = tt
held_at true None old cells same given = tt
held_at true (Some image) old cells same given = same ∙ given refl

-- a check of the disk that was attached
pub RunsCheck-run : {I D : Type 0} (seen : ImagesSeen I D) (path : List ℕ) (images images_after : I) (own : Status) (disk : Option D) (found : Option Numbers)
    (mounts : List MountRecord) (groups : List GroupStory) (said : List Said) (given : D) → IsSome disk → IfSome disk (λ d. seen.cells d ≡ seen.cells given)
    → IfSome disk (λ d. IsChecking seen.known (seen.cells d) (seen.disk_faults given) (seen.disk_faults d) own found) → EndsCheck own → IsEarly mounts groups said
    → seen.given images_after ≡ seen.given images ++ attached path (seen.disk_faults given) ∷ []
    → (IsTrue seen.known → IfSome (seen.image_at images path) (λ image. seen.cells given ≡ settled_as image)) → (IsTrue seen.known → HasOneImage (seen.cells given))
    → RunsCheck seen path images images_after own disk found mounts groups said
RunsCheck-run seen path images images_after own None found mounts groups said given some same checked ends early attached image one = absurd (true≢false (sym some))
RunsCheck-run seen path images images_after own (Some d) found mounts groups said given some same checked ends early attached image one = record {
  ends = ends;
  open_fault = λ is. absurd (checked.given is);
  checks = (
    seen.disk_faults given,
    attached,
    held_at seen.known (seen.image_at images path) (seen.cells given) (seen.cells d) same image,
    (λ tells. subst HasOneImage (sym same) (one tells)),
    checked,
  );
  early = early;
}

none_of : {X : Type 0} (o : Option X) → IsNone o → o ≡ None
none_of None is = refl
none_of (Some x) is = absurd (true≢false is)

-- the same of what is told in another way
pub RunsCheck-told : {I D : Type 0} (seen : ImagesSeen I D) (path : List ℕ) (images images_after : I) (own own' : Status) (disk disk' : Option D)
    (found : Option Numbers) (mounts mounts' : List MountRecord) (groups groups' : List GroupStory) (said said' : List Said) → own' ≡ own → disk' ≡ disk → mounts' ≡ mounts → groups' ≡ groups → said' ≡ said
    → RunsCheck seen path images images_after own disk found mounts groups said → RunsCheck seen path images images_after own' disk' found mounts' groups' said'
RunsCheck-told seen path images images_after own own' disk disk' found mounts mounts' groups groups' said said' e d m g' s runs =
    subst (λ (o : Status). RunsCheck seen path images images_after o disk' found mounts' groups' said') (sym e)
    (subst (λ (o : Option _). RunsCheck seen path images images_after own o found mounts' groups' said') (sym d)
    (subst (λ (l : List MountRecord). RunsCheck seen path images images_after own disk found l groups' said') (sym m)
    (subst (λ (l : List GroupStory). RunsCheck seen path images images_after own disk found mounts l said') (sym g')
    (subst (λ (l : List Said). RunsCheck seen path images images_after own disk found mounts groups l) (sym s) runs))))

-- a check that was given no disk
pub RunsCheck-early : {I D : Type 0} (seen : ImagesSeen I D) (path : List ℕ) (images images_after : I) (own own' : Status) (disk : Option D)
    (mounts : List MountRecord) (groups : List GroupStory) (said : List Said) → own' ≡ own → IsNone disk → mounts ≡ [] → groups ≡ [] → said ≡ [] → EndsCheck own → Yields own status.OpenFault
    → (own ≡ status.OpenFault → Rose (seen.faults images) (seen.faults images_after)) → seen.given images_after ≡ seen.given images
    → RunsCheck seen path images images_after own' disk None mounts groups said
RunsCheck-early seen path images images_after own own' disk mounts groups said e none unmade ungrouped unsaid ends yields rose given =
    RunsCheck-told seen path images images_after own own' None disk None [] mounts [] groups [] said e (none_of disk none) unmade ungrouped unsaid (record {
      ends = ends;
      open_fault = rose;
      checks = (given, yields);
      early = record { no_mount = refl; no_group = refl; no_answer = refl };
    })

-- the words name its path, and a disk that was attached is handed back
pub check_back : {I D : Type 0} (seen : ImagesSeen I D) (words : List (String Global)) (path : List ℕ) (images images_after : I) (own : Status)
    (disk : Option D) (found : Option Numbers) (mounts : List MountRecord) (groups : List GroupStory) (said : List Said) → IsCheck words path
    → RunsCheck seen path images images_after own disk found mounts groups said
    → MatchOption disk ((seen.given images_after ≡ seen.given images) × IsEarly mounts groups said) (λ _. IsGiven words (seen.given images) (seen.given images_after))
check_back seen words path images images_after own None found mounts groups said is runs = (runs.checks.0, runs.early)
check_back seen words path images images_after own (Some d) found mounts groups said is runs =
    (path, ap (λ (l : List (List ℕ)). slice_get l 1) is.0, (runs.checks.0, inl runs.checks.1))

-- one was attached where it ended well
pub check_disk : {I D : Type 0} (seen : ImagesSeen I D) (path : List ℕ) (images images_after : I) (own ended : Status) (disk : Option D)
    (found : Option Numbers) (mounts : List MountRecord) (groups : List GroupStory) (said : List Said) → RunsCheck seen path images images_after own disk found mounts groups said → Yields ended own
    → ended ≡ status.Good → IsSome disk
check_disk seen path images images_after own ended None found mounts groups said runs yields good =
    let well : own ≡ status.Good = own_status ended own status.Good yields (λ e. cc) (λ e. cc) good in
    let not : status.OpenFault ≡ status.Good = own_status own status.OpenFault status.Good runs.checks.1 (λ e. cc) (λ e. cc) well in
    absurd cc
check_disk seen path images images_after own ended (Some d) found mounts groups said runs yields good = refl
