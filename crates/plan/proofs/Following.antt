-- Each granted call takes a plan that follows a journal to one that follows the journal after it.
use Rattle.std.proofs.Common.{◌≡◌, ℕ, true, leb, List, [], ◌∷◌, ◌++◌, length, Some, Ok, Err, Option, Result, sym, refl, ap, ◌∙◌, subst, arith}
use Rattle.flow.specs.declared.traffic.Flow.{Flow}
use Rattle.flow.specs.Flows.{FlowSpec, flow_spec}
use Rattle.flow.specs.Outcomes.{and_then}
use Rattle.flow.proofs.Checks.{checked, unless-passed, unless_refused}
use Rattle.table.specs.declared.fault.PlanFault.{PlanFault}
use Rattle.table.specs.declared.table.FlowTable.{FlowTable}
use Rattle.table.specs.Force.{in_force, enter, leave, rising}
use Rattle.table.specs.Tables.{flows_in}
use Rattle.table.specs.Vetting.{when, vetted, retire_fault}
use Rattle.table.proofs.Found.{flows-length}
use Rattle.table.proofs.Order.{leave-enter}
use Rattle.table.proofs.Vetted.{Admitted}
use Rattle.plan.specs.declared.channels.ChannelMap.{ChannelMap}
use Rattle.plan.specs.declared.reversal.Reversal.{Reversal}
use Rattle.plan.specs.declared.reversal.Reversal.TheVariants.{Remove, Insert, Restore}
use Rattle.calls.specs.Calls.{admit, retire}
use Rattle.plan.specs.Journal.{
  Change,
  adds,
  removes,
  maps,
  Journal,
  play,
  play_all,
  fresh,
  standing,
  full,
  list_fault,
  noted,
  called,
}
use Rattle.plan.specs.Follows.{Fits, Reverses, Undoes, Follows}
use Rattle.plan.proofs.Presence.{in_force_enter, absent_leave}
use Rattle.plan.proofs.Undoing.{play_all-append, undoes_length, undoes_push}

-- a table's flows fit
pub table_fits : (t : FlowTable) → Fits (flows_in t)
table_fits t = record { few = omega (arith, flows-length t, t.flows.few); short = t.short; light = t.light }

-- the journal with one more change listed
abbrev pub more : Change → Journal → Journal
more c j = record { settled = j.settled; listed = j.listed ++ c ∷ [] }

-- the plan's list has no place for one more change
abbrev pub full_fault : Option ℕ → List Reversal → Option PlanFault
full_fault flow changes = when (leb 16 (length changes)) (full flow)

module _ {j : Journal} {flows : List FlowSpec} {map : ChannelMap} {changes : List Reversal} (f : Follows j flows map changes) where
  -- the list of changes has as many places in use as the journal's
  pub list_same : length changes ≡ length j.listed
  list_same = undoes_length (play_all j.settled fresh) j.listed changes f.listed

  -- the plan's list is full where the journal's is
  full_same : (flow : Option ℕ) → checked (full_fault flow changes) ≡ checked (list_fault flow j.listed)
  full_same flow = ap (λ k. checked (when (leb 16 k) (full flow))) list_same

  -- where the list is full the journal refuses
  pub room_refused : (flow : Option ℕ) (c : Change) (e : PlanFault) → Err e ≡ checked (full_fault flow changes) → noted flow c j ≡ Err e
  room_refused flow c e h = unless_refused (list_fault flow j.listed) tt e _ (h ∙ full_same flow)

  -- where it is not the journal lists the change
  pub room-passed : (flow : Option ℕ) (c : Change) (u : Unit {0}) → Ok u ≡ checked (full_fault flow changes) → noted flow c j ≡ Ok (more c j)
  room-passed flow c u h = unless-passed (list_fault flow j.listed) tt u _ (h ∙ full_same flow)

  -- the journal's answer to an admit goes by the plan's own flows
  pub called-admit : (n p d : ℕ) (bytes : List ℕ) (r : Result FlowSpec PlanFault) → vetted n p d bytes flows ≡ r →
      called (admit n p d bytes) j ≡ and_then r (λ g. noted (Some n) (adds g) j)
  called-admit n p d bytes r is =
      ap (λ fs. and_then (vetted n p d bytes fs) (λ g. noted (Some n) (adds g) j)) (sym f.inforce)
      ∙ ap (λ x. and_then x (λ g. noted (Some n) (adds g) j)) is

  -- what keeps a flow from being retired is the same in the journal
  retire_same : (n : ℕ) → checked (retire_fault n flows) ≡ checked (retire_fault n (standing j).flows)
  retire_same n = ap (λ fs. checked (retire_fault n fs)) f.inforce

  -- where a flow can be retired the journal lists the change, if there is a place
  pub retire-passed : (n : ℕ) (u : Unit {0}) → Ok u ≡ checked (retire_fault n flows) →
      called (retire n) j ≡ noted (Some n) (removes n) j
  retire-passed n u h = unless-passed (retire_fault n (standing j).flows) tt u _ (h ∙ retire_same n)

  -- without its change list the plan follows the settled journal
  pub follows_settle : Follows (record { settled = j.settled ++ j.listed; listed = [] }) flows map []
  follows_settle =
      let plays = play_all-append j.settled j.listed fresh in
      record {
        inforce = f.inforce ∙ ap (λ x. x.flows) (sym plays);
        allowed = f.allowed ∙ ap (λ x. x.channels) (sym plays);
        listed = tt;
      }

  module _ (fits : Fits flows) {changes' : List Reversal} where
    -- with one more change and its reversal the plan follows the journal with that change
    follows-more : (c : Change) (r : Reversal) {flows' : List FlowSpec} {map' : ChannelMap} →
        flows' ≡ (play c (standing j)).flows → map'.bits ≡ (play c (standing j)).channels →
        Reverses r (play c (standing j)) (standing j) → changes' ≡ changes ++ r ∷ [] → Follows (more c j) flows' map' changes'
    follows-more c r is allows back pushed =
        let s = play_all j.settled fresh in
        let plays = play_all-append j.listed (c ∷ []) s in
        let undoes = undoes_push s j.listed changes c r f.listed (subst Fits f.inforce fits) back in
        record {
          inforce = is ∙ ap (λ x. x.flows) (sym plays);
          allowed = allows ∙ ap (λ x. x.channels) (sym plays);
          listed = subst (Undoes s (j.listed ++ c ∷ [])) (sym pushed) undoes;
        }

    -- so it does when a flow was admitted
    pub follows-admit : (n : ℕ) (g : FlowSpec) {flows' : List FlowSpec} → Admitted n g flows → flows' ≡ enter g flows →
        changes' ≡ changes ++ Remove n ∷ [] → Follows (more (adds g) j) flows' map changes'
    follows-admit n g a is =
        let fs = (standing j).flows in
        let new = ap (λ k. in_force k fs) a.named ∙ ap (in_force n) (sym f.inforce) ∙ a.placed.new in
        follows-more (adds g) (Remove n) (is ∙ ap (enter g) f.inforce) f.allowed (
          ap (λ k. in_force k (enter g fs)) (sym a.named) ∙ in_force_enter g fs,
          ap (λ k. leave k (enter g fs)) (sym a.named) ∙ leave-enter g fs new,
          refl,
        )

    -- when a flow was retired
    pub follows-retire : (n : ℕ) (x : Flow) {flows' : List FlowSpec} → rising flows ≡ true → x.number ≡ n →
        enter (flow_spec x) (leave n flows) ≡ flows → flows' ≡ leave n flows →
        changes' ≡ changes ++ Insert x ∷ [] → Follows (more (removes n) j) flows' map changes'
    follows-retire n x rises named back is =
        let fs = (standing j).flows in
        follows-more (removes n) (Insert x) (is ∙ ap (leave n) f.inforce) f.allowed (
          ap (λ k. in_force k (leave n fs)) named ∙ absent_leave n fs (ap rising (sym f.inforce) ∙ rises),
          subst (λ l. enter (flow_spec x) (leave n l) ≡ l) f.inforce back,
          refl,
        )

    -- when the map was set
    pub follows-map : (channels : ℕ) {map' : ChannelMap} → map'.bits ≡ channels → changes' ≡ changes ++ Restore map ∷ [] →
        Follows (more (maps channels) j) flows map' changes'
    follows-map channels is = follows-more (maps channels) (Restore map) f.inforce is (refl, f.allowed)
