-- A server that stays, what it did since it was started, and the lines that wait for standard error.
use Rattle.std.specs.Prelude.{ℕ, ◌+◌, ◌-◌, ◌^◌, List, String, min, ◌≡◌, Bool, Result, IfOk, refl, [], ◌++◌, map, Option, None, Some, Ok}
use Rattle.std.specs.declared.alloc.Global.{Global}
use Rattle.std.specs.Coded.{Coded, code_by, coded×, coded_bool, coded_ℕ}
use Rattle.std.specs.List.{AllByRecursion}
use Rattle.pn_join.specs.declared.memory.NoMemory.{NoMemory}
use Rattle.pn_record.specs.declared.records.Image.{Image}
use Rattle.pn_tablet.specs.Copies.{TabletCopyValue}
use Rattle.pn_tablet.specs.Layouts.{Bounds, IsLayout}
use Rattle.pn_stream.specs.Brokers.{BrokerRecord, IsHonest}
use Rattle.pn_apply.specs.Reducing.{ranges}
use Rattle.pn_region.specs.Log.{LoggedRegion}
use Rattle.pn_region.specs.Events.{RegionEvent, AreHonestCopies, start_events, all_taken}
use Rattle.pn_live.specs.LiveRegions.{LiveRegionValue, core, IsNewLive, StartsLive}
use Rattle.pn_live.specs.Proofs.{live_code}
use Rattle.pn_serve.specs.Server.Events.{RunsCommands, ReadsBesides, WriterEvent, AdoptsHonestly, region_events}
use Rattle.pn_serve.specs.declared.server.events.ReadingEnd.{ReadingEnd}

-- Lines that wait for standard error, and how many were dropped.

-- the lines that wait, in their order, and how many were dropped
abbrev pub Waiting : Type 0
Waiting = List (String Global) × ℕ

-- one line more was dropped, as far as it can be counted
abbrev pub one_more : ℕ → ℕ
one_more dropped = min (dropped + 1) (2 ^ 64 - 1)

-- A server that stays.

-- the live region of a server, how many threads answer from it, and whether there may be control sessions
pub record ServerValue : Type 0 where
  pub live : LiveRegionValue
  pub threads : ℕ
  pub controlled : Bool

-- the region that is left is the live one, with its log, unless memory ran out
abbrev pub Leaves : LiveRegionValue → Result LoggedRegion NoMemory → Type 0
Leaves live left = IfOk left (λ region. (region.state ≡ core live) × (region.log ≡ live.log))

-- commands alone came, and then the region was left
pub record LeavesAfter (old : LiveRegionValue) (left : Result LoggedRegion NoMemory) : Type 0 where
  pub last : LiveRegionValue
  pub told : RunsCommands old last
  pub leaves : Leaves last left

-- how a server is stored in a proof
abbrev pub server_code : Coded ServerValue
server_code =
    code_by (LiveRegionValue × (ℕ × Bool)) (coded× live_code (coded× coded_ℕ coded_bool)) (λ s. (s.live, (s.threads, s.controlled)))
    (λ p. record { live = p.0; threads = p.1.0; controlled = p.1.1 }) (λ _. refl)

-- What a server that stays did since it was started, and the images that it took.

-- a live region begins: a new one of the layout, or one from honest copies of its tablets
abbrev pub Begins : BrokerRecord → Bounds → Option (List TabletCopyValue) → LiveRegionValue → Type 0
Begins broker layout None started = IsNewLive layout started
Begins broker layout (Some copies) started =
    (map (λ copy. copy.range) copies ≡ ranges layout) × StartsLive copies layout started × AreHonestCopies broker copies

-- the events by which it begins
abbrev pub first_events : Option (List TabletCopyValue) → List RegionEvent
first_events None = []
first_events (Some copies) = start_events copies

-- a server began with a live region, read streams beside commands until they ended or it was stopped, and did commands then. What
-- streams brought and the copies that it adopted are honest
pub record LivedHonestly (broker : BrokerRecord) (live : LiveRegionValue) : Type 0 where
  pub layout : Bounds
  pub lawful : IsLayout layout
  pub copies : Option (List TabletCopyValue)
  pub started : LiveRegionValue
  pub begins : Begins broker layout copies started
  pub names : List (List ℕ)
  pub read : LiveRegionValue
  pub end : ReadingEnd
  pub ran : ReadsBesides (IsHonest broker) names started read (Ok end)
  pub told : RunsCommands read live
  pub adopts : AllByRecursion (AdoptsHonestly broker) ran.events
  pub adopts_later : AllByRecursion (AdoptsHonestly broker) told.events

-- all that it did
abbrev pub deeds : {broker : BrokerRecord} {live : LiveRegionValue} → LivedHonestly broker live → List WriterEvent
deeds lived = lived.ran.events ++ lived.told.events

-- the images that it took, of streams and by copies
abbrev pub images_lived : {broker : BrokerRecord} {live : LiveRegionValue} → LivedHonestly broker live → List Image
images_lived {broker} lived = all_taken broker (first_events lived.copies ++ region_events (deeds lived))
