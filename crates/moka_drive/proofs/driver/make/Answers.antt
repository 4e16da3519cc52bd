use Rattle.std.proofs.Common.{refl, false, sym, subst, ◌∙◌}
use Rattle.moka_parts.specs.Calls.{no_events, GetStep, PeekStep, ScanStep}
use Rattle.moka_parts.specs.Copies.{IsEntryCopy}
use Rattle.moka_parts.specs.Listed.{ListedRun}
use Rattle.moka_parts.specs.State.{Events, meaning_of}
use Rattle.moka_parts.specs.Surroundings.{Leads}
use Rattle.moka_laws.proofs.Copies.{answer-same, entry-same}
use Rattle.moka_laws.proofs.Alike.{get_alike, listed_run_alike}
use Rattle.moka_laws.proofs.Quiet.{befalls-nothing}
use Rattle.moka_drive.proofs.Reports.{keys_step, pending_step, granted_get, granted_key, granted_peek, granted_scan}
use Rattle.moka_drive.proofs.driver.make.Goals as goal

pub returns-then-is_map_disabled-clause-step : goal.returns-then-is_map_disabled-clause-step
returns-then-is_map_disabled-clause-step g c =
    rw c.in-Insert.is (no_events, (sym c.is_map_disabled.ensures ∙ c.if-is_map_disabled.true, refl, refl, (refl, refl)), befalls-nothing g.L.Listener.tells c.args.cache.now, (refl, refl))

pub returns-in-Get-clause-step : goal.returns-in-Get-clause-step
returns-in-Get-clause-step g c =
    let got = c.get_with_hash.ensures.step in
    let equal = entry-same g.K.Clone.is_clone g.V.Clone.is_clone c.requires.keys c.requires.values in
    let same = answer-same (IsEntryCopy g.K.Clone.is_clone g.V.Clone.is_clone) equal got.0 c.get_with_hash.result got.2 in
    let step = subst (λ a. GetStep g.P.PredicateFn.says g.X.Expiry.read (ListedRun g.P.PredicateFn.says g.X.Expiry.read c.args.cache.now.write_list c.get_with_hash.new.self.write_list) g.K.PartialEq.eq c.args.cache.now.state c.in-Get.key c.in-Get.hash c.in-Get.need_key false c.in-Get.now.0 a got.1.0 c.get_with_hash.new.self.state) (sym same) got.1.1 in
    let runs_alike = listed_run_alike g.P.PredicateFn.says g.X.Expiry.read c.args.cache.now.write_list c.get_with_hash.new.self.write_list in
    let unasked = (get_alike (ListedRun g.P.PredicateFn.says g.X.Expiry.read c.args.cache.now.write_list c.get_with_hash.new.self.write_list) runs_alike g.P.PredicateFn.says g.X.Expiry.read g.K.PartialEq.eq c.args.cache.now.state c.in-Get.key c.in-Get.hash c.in-Get.need_key false c.in-Get.now.0 got.0 got.1.0 c.get_with_hash.new.self.state got.1.1).1 in
    rw c.in-Get.is (got.1.0, step, got.1.2, (got.1.3, subst (λ ids. Leads g.I.IdSource.gives c.args.ids.now ids c.args.ids.now) (sym unasked) refl))

pub returns-in-GetUnrecorded-clause-step : goal.returns-in-GetUnrecorded-clause-step
returns-in-GetUnrecorded-clause-step g c =
    let looked = c.get_with_hash_without_recording.ensures.step in
    let same = answer-same g.V.Clone.is_clone c.requires.values looked.2.0 c.get_with_hash_without_recording.result looked.2.2 in
    let unignored = subst (λ ignored. PeekStep g.P.PredicateFn.says g.X.Expiry.read g.K.PartialEq.eq c.args.cache.now.state c.in-GetUnrecorded.key ignored c.in-GetUnrecorded.now.0 looked.2.0 c.get_with_hash_without_recording.new.self.state) looked.1.0 looked.2.1 in
    let step = subst (λ a. PeekStep g.P.PredicateFn.says g.X.Expiry.read g.K.PartialEq.eq c.args.cache.now.state c.in-GetUnrecorded.key false c.in-GetUnrecorded.now.0 a c.get_with_hash_without_recording.new.self.state) (sym same) unignored in
    rw c.in-GetUnrecorded.is (no_events, (step, refl), looked.3, (refl, refl))

pub returns-in-Scan-clause-step : goal.returns-in-Scan-clause-step
returns-in-Scan-clause-step g c =
    let looked = c.scanning_get.ensures.step in
    let same = answer-same g.V.Clone.is_clone c.requires.values looked.0 c.scanning_get.result looked.2 in
    let step = subst (λ a. ScanStep g.P.PredicateFn.says g.K.PartialEq.eq c.args.cache.now.state c.in-Scan.key c.in-Scan.now.0 a) (sym same) looked.1 in
    rw c.in-Scan.is (no_events, (step, (refl, refl)), befalls-nothing g.L.Listener.tells c.args.cache.now, (refl, refl))

pub returns-in-Contains-clause-step : goal.returns-in-Contains-clause-step
returns-in-Contains-clause-step g c =
    rw c.in-Contains.is (no_events, (c.contains_key_with_hash.ensures, (refl, refl)), befalls-nothing g.L.Listener.tells c.args.cache.now, (refl, refl))

pub returns-in-Key-clause-step : goal.returns-in-Key-clause-step
returns-in-Key-clause-step g c =
    rw c.in-Key.is (no_events, (c.key_of.ensures.step, (refl, refl)), befalls-nothing g.L.Listener.tells c.args.cache.now, (refl, refl))

pub returns-in-InvalidateAll-clause-step : goal.returns-in-InvalidateAll-clause-step
returns-in-InvalidateAll-clause-step g c = rw c.in-InvalidateAll.is (no_events, (c.invalidate_all.ensures.step, refl), c.invalidate_all.ensures.events, (refl, refl))

pub returns-in-InvalidateIf-clause-step : goal.returns-in-InvalidateIf-clause-step
returns-in-InvalidateIf-clause-step g c =
    let made = c.invalidate_entries_if.ensures in
    rw c.in-InvalidateIf.is (made.0, made.1, made.2, (subst (λ (e : Events g.row.K.Denot g.row.V.Denot). Leads g.C.Clock.reads c.args.clock.now e.readings c.args.clock.now) (sym made.1.1) refl, made.3))

pub returns-in-DisableAutoRun-clause-step : goal.returns-in-DisableAutoRun-clause-step
returns-in-DisableAutoRun-clause-step g c = rw c.in-DisableAutoRun.is (no_events, (c.disable_auto_run.ensures.step, refl), c.disable_auto_run.ensures.events, (refl, refl))

pub returns-in-Keys-clause-step : goal.returns-in-Keys-clause-step
returns-in-Keys-clause-step g c =
    rw c.in-Keys.is (no_events, keys_step g.K.Clone.is_clone c.requires.keys (meaning_of g.K.PartialEq.eq g.L.Listener.tells g.P.PredicateFn.says g.W.Weigher.weighs g.C.Clock.reads g.I.IdSource.gives g.X.Expiry.created g.X.Expiry.read g.X.Expiry.updated) (ListedRun g.P.PredicateFn.says g.X.Expiry.read c.args.cache.now.write_list c.args.cache.now.write_list) c.args.cache.now.state c.in-Keys.segment c.keys.result c.keys.ensures.ok c.keys.ensures.err, befalls-nothing g.L.Listener.tells c.args.cache.now, (refl, refl))

pub returns-in-Report-clause-step : goal.returns-in-Report-clause-step
returns-in-Report-clause-step g c =
    rw c.in-Report.is (rw c.report.ensures (no_events, (refl, refl, refl, (refl, refl)), befalls-nothing g.L.Listener.tells c.args.cache.now, (refl, refl)))

pub returns-in-Pending-clause-step : goal.returns-in-Pending-clause-step
returns-in-Pending-clause-step g c =
    rw c.in-Pending.is (no_events, pending_step (meaning_of g.K.PartialEq.eq g.L.Listener.tells g.P.PredicateFn.says g.W.Weigher.weighs g.C.Clock.reads g.I.IdSource.gives g.X.Expiry.created g.X.Expiry.read g.X.Expiry.updated) (ListedRun g.P.PredicateFn.says g.X.Expiry.read c.args.cache.now.write_list c.args.cache.now.write_list) c.args.cache.now.state c.pending.result c.pending.ensures, befalls-nothing g.L.Listener.tells c.args.cache.now, (refl, refl))

pub returns-in-SetCapacity-clause-step : goal.returns-in-SetCapacity-clause-step
returns-in-SetCapacity-clause-step g c = rw c.in-SetCapacity.is (no_events, (c.set_max_capacity.ensures.step, refl), c.set_max_capacity.ensures.events, (refl, refl))

pub returns-in-Get-clause-granted : goal.returns-in-Get-clause-granted
returns-in-Get-clause-granted g c = λ infallible. granted_get g.row.K.Denot g.row.V.Denot g.row.P.Denot c.get_with_hash.result (c.get_with_hash.ensures.succeeds (λ r there. (infallible.1 r.value, λ asked. infallible.0 r.key)))

pub returns-in-GetUnrecorded-clause-granted : goal.returns-in-GetUnrecorded-clause-granted
returns-in-GetUnrecorded-clause-granted g c = λ infallible. granted_peek g.row.K.Denot g.row.V.Denot g.row.P.Denot c.get_with_hash_without_recording.result (c.get_with_hash_without_recording.ensures.succeeds (λ r there. infallible.1 r.value))

pub returns-in-Scan-clause-granted : goal.returns-in-Scan-clause-granted
returns-in-Scan-clause-granted g c = λ infallible. granted_scan g.row.K.Denot g.row.V.Denot g.row.P.Denot c.scanning_get.result (c.scanning_get.ensures.succeeds (λ r there. infallible.1 r.value))

pub returns-in-Key-clause-granted : goal.returns-in-Key-clause-granted
returns-in-Key-clause-granted g c = λ infallible. granted_key g.row.K.Denot g.row.V.Denot g.row.P.Denot c.key_of.result (c.key_of.ensures.granted infallible.0)
