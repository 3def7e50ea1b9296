use Rattle.em_histories.proofs.worked.OneEvent as one_event
use Rattle.em_histories.proofs.worked.OneEventAtTheLimit as one_event_at_the_limit
use Rattle.em_histories.proofs.worked.OnlyBoot as only_boot
use Rattle.em_histories.proofs.worked.LimitOfThree as limit_of_three
use Rattle.em_histories.proofs.worked.SentTwice as sent_twice
use Rattle.em_histories.proofs.worked.FreedTwice as freed_twice
use Rattle.em_histories.proofs.worked.PoolEmpty as pool_empty
use Rattle.em_histories.proofs.worked.KeepAndClaim as keep_and_claim
use Rattle.em_histories.proofs.worked.EveryRefusalOfBoot as every_refusal_of_boot
use Rattle.em_histories.proofs.worked.TwoPrioritiesInOneAtomicGroup as two_priorities_in_one_atomic_group
use Rattle.em_histories.proofs.worked.EarlyEndOfAtomicProcessing as early_end_of_atomic_processing
use Rattle.em_histories.proofs.worked.UnscheduledOutputAndCells as unscheduled_output_and_cells
use Rattle.em_histories.proofs.worked.ThreeOrderedContextsEndOutOfOrder as three_ordered_contexts_end_out_of_order
use Rattle.em_histories.proofs.worked.EarlyEndOfOrderedProcessing as early_end_of_ordered_processing
use Rattle.em_histories.proofs.worked.OrderedEndedTwice as ordered_ended_twice
use Rattle.em_histories.proofs.worked.QueueGroupChangedWhileAReceiveRuns as queue_group_changed_while_a_receive_runs
use Rattle.em_histories.proofs.worked.ChangesRefused as changes_refused
use Rattle.em_histories.proofs.worked.ObjectStoppedWhileAReceiveRuns as object_stopped_while_a_receive_runs
use Rattle.em_histories.proofs.worked.ObjectStoppedByItsOwnEventAndStartedAgain as object_stopped_by_its_own_event_and_started_again
use Rattle.em_histories.proofs.worked.StartThatFails as start_that_fails
use Rattle.em_histories.proofs.worked.StopWhoseNoteIsLost as stop_whose_note_is_lost
use Rattle.em_histories.proofs.worked.GroupCountsAndNotifies as group_counts_and_notifies
use Rattle.em_histories.proofs.worked.ApplicationAborted as application_aborted
use Rattle.em_histories.proofs.worked.ErrorBodiesOfBothScopes as error_bodies_of_both_scopes
use Rattle.em_histories.proofs.worked.LocalQueueKeepClaimDequeue as local_queue_keep_claim_dequeue
use Rattle.em_histories.proofs.worked.QueueDisabledAndEnabled as queue_disabled_and_enabled
use Rattle.em_histories.proofs.worked.HandleHeldByAnotherCore as handle_held_by_another_core
use Rattle.em_histories.proofs.worked.BurstOfTwo as burst_of_two
use Rattle.em_histories.proofs.worked.BurstGivenBackForAChange as burst_given_back_for_a_change
use Rattle.em_histories.proofs.worked_histories.Goals as goal

pub returns-clause-one_event : goal.returns-clause-one_event
returns-clause-one_event c = one_event.is_legal

pub returns-clause-one_event_at_the_limit : goal.returns-clause-one_event_at_the_limit
returns-clause-one_event_at_the_limit c = one_event_at_the_limit.is_legal

pub returns-clause-only_boot : goal.returns-clause-only_boot
returns-clause-only_boot c = only_boot.is_legal

pub returns-clause-limit_of_three : goal.returns-clause-limit_of_three
returns-clause-limit_of_three c = limit_of_three.is_legal

pub returns-clause-sent_twice : goal.returns-clause-sent_twice
returns-clause-sent_twice c = sent_twice.is_legal

pub returns-clause-freed_twice : goal.returns-clause-freed_twice
returns-clause-freed_twice c = freed_twice.is_legal

pub returns-clause-pool_empty : goal.returns-clause-pool_empty
returns-clause-pool_empty c = pool_empty.is_legal

pub returns-clause-keep_and_claim : goal.returns-clause-keep_and_claim
returns-clause-keep_and_claim c = keep_and_claim.is_legal

pub returns-clause-every_refusal_of_boot : goal.returns-clause-every_refusal_of_boot
returns-clause-every_refusal_of_boot c = every_refusal_of_boot.is_legal

pub returns-clause-two_priorities_in_one_atomic_group : goal.returns-clause-two_priorities_in_one_atomic_group
returns-clause-two_priorities_in_one_atomic_group c = two_priorities_in_one_atomic_group.is_legal

pub returns-clause-early_end_of_atomic_processing : goal.returns-clause-early_end_of_atomic_processing
returns-clause-early_end_of_atomic_processing c = early_end_of_atomic_processing.is_legal

pub returns-clause-unscheduled_output_and_cells : goal.returns-clause-unscheduled_output_and_cells
returns-clause-unscheduled_output_and_cells c = unscheduled_output_and_cells.is_legal

pub returns-clause-three_ordered_contexts_end_out_of_order : goal.returns-clause-three_ordered_contexts_end_out_of_order
returns-clause-three_ordered_contexts_end_out_of_order c = three_ordered_contexts_end_out_of_order.is_legal

pub returns-clause-early_end_of_ordered_processing : goal.returns-clause-early_end_of_ordered_processing
returns-clause-early_end_of_ordered_processing c = early_end_of_ordered_processing.is_legal

pub returns-clause-ordered_ended_twice : goal.returns-clause-ordered_ended_twice
returns-clause-ordered_ended_twice c = ordered_ended_twice.is_legal

pub returns-clause-queue_group_changed_while_a_receive_runs : goal.returns-clause-queue_group_changed_while_a_receive_runs
returns-clause-queue_group_changed_while_a_receive_runs c = queue_group_changed_while_a_receive_runs.is_legal

pub returns-clause-changes_refused : goal.returns-clause-changes_refused
returns-clause-changes_refused c = changes_refused.is_legal

pub returns-clause-object_stopped_while_a_receive_runs : goal.returns-clause-object_stopped_while_a_receive_runs
returns-clause-object_stopped_while_a_receive_runs c = object_stopped_while_a_receive_runs.is_legal

pub returns-clause-object_stopped_by_its_own_event_and_started_again : goal.returns-clause-object_stopped_by_its_own_event_and_started_again
returns-clause-object_stopped_by_its_own_event_and_started_again c = object_stopped_by_its_own_event_and_started_again.is_legal

pub returns-clause-start_that_fails : goal.returns-clause-start_that_fails
returns-clause-start_that_fails c = start_that_fails.is_legal

pub returns-clause-stop_whose_note_is_lost : goal.returns-clause-stop_whose_note_is_lost
returns-clause-stop_whose_note_is_lost c = stop_whose_note_is_lost.is_legal

pub returns-clause-group_counts_and_notifies : goal.returns-clause-group_counts_and_notifies
returns-clause-group_counts_and_notifies c = group_counts_and_notifies.is_legal

pub returns-clause-application_aborted : goal.returns-clause-application_aborted
returns-clause-application_aborted c = application_aborted.is_legal

pub returns-clause-error_bodies_of_both_scopes : goal.returns-clause-error_bodies_of_both_scopes
returns-clause-error_bodies_of_both_scopes c = error_bodies_of_both_scopes.is_legal

pub returns-clause-local_queue_keep_claim_dequeue : goal.returns-clause-local_queue_keep_claim_dequeue
returns-clause-local_queue_keep_claim_dequeue c = local_queue_keep_claim_dequeue.is_legal

pub returns-clause-queue_disabled_and_enabled : goal.returns-clause-queue_disabled_and_enabled
returns-clause-queue_disabled_and_enabled c = queue_disabled_and_enabled.is_legal

pub returns-clause-handle_held_by_another_core : goal.returns-clause-handle_held_by_another_core
returns-clause-handle_held_by_another_core c = handle_held_by_another_core.is_legal

pub returns-clause-burst_of_two : goal.returns-clause-burst_of_two
returns-clause-burst_of_two c = burst_of_two.is_legal

pub returns-clause-burst_given_back_for_a_change : goal.returns-clause-burst_given_back_for_a_change
returns-clause-burst_given_back_for_a_change c = burst_given_back_for_a_change.is_legal
