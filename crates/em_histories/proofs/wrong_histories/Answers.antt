use Rattle.em_histories.proofs.wrong.ReleasedInTheWrongOrder as released_in_the_wrong_order
use Rattle.em_histories.proofs.wrong.ReleasedBeforeItsTicketIsTheFirst as released_before_its_ticket_is_the_first
use Rattle.em_histories.proofs.wrong.HeldSendThatNeverEnters as held_send_that_never_enters
use Rattle.em_histories.proofs.wrong.AcknowledgedWhileAReceiveRuns as acknowledged_while_a_receive_runs
use Rattle.em_histories.proofs.wrong.DoneBeforeAllHaveAcknowledged as done_before_all_have_acknowledged
use Rattle.em_histories.proofs.wrong.MaskInForceBeforeAllHaveAcknowledged as mask_in_force_before_all_have_acknowledged
use Rattle.em_histories.proofs.wrong.LocalStopEnteredWhileAReceiveRuns as local_stop_entered_while_a_receive_runs
use Rattle.em_histories.proofs.wrong.StaleHandleFreed as stale_handle_freed
use Rattle.em_histories.proofs.wrong.SpentHandleSent as spent_handle_sent
use Rattle.em_histories.proofs.wrong.HandleGivenAgain as handle_given_again
use Rattle.em_histories.proofs.wrong.LowerPriorityTaken as lower_priority_taken
use Rattle.em_histories.proofs.wrong.AtomicGroupHeldByTwoCores as atomic_group_held_by_two_cores
use Rattle.em_histories.proofs.wrong.TakenFromADisabledQueue as taken_from_a_disabled_queue
use Rattle.em_histories.proofs.wrong.MoreReceivesThanTheLimit as more_receives_than_the_limit
use Rattle.em_histories.proofs.wrong.NotifiedTwice as notified_twice
use Rattle.em_histories.proofs.wrong.AbortedApplicationNotifies as aborted_application_notifies
use Rattle.em_histories.proofs.wrong.ReceivedAgainAfterGivingBack as received_again_after_giving_back
use Rattle.em_histories.proofs.wrong.LargerBurstTaken as larger_burst_taken
use Rattle.em_histories.proofs.wrong.ChangedWhileAChangeIsPending as changed_while_a_change_is_pending
use Rattle.em_histories.proofs.wrong.TakenBeforeTheEarlyEnd as taken_before_the_early_end
use Rattle.em_histories.proofs.wrong.AppliedWhileBusy as applied_while_busy
use Rattle.em_histories.proofs.wrong.NotifiedBeforeTheLastEnd as notified_before_the_last_end
use Rattle.em_histories.proofs.wrong.HandleOfAnotherCoreFreed as handle_of_another_core_freed
use Rattle.em_histories.proofs.wrong.KeptEventNotFound as kept_event_not_found
use Rattle.em_histories.proofs.wrong.LocalEventTakenElsewhere as local_event_taken_elsewhere
use Rattle.em_histories.proofs.wrong.TakenFromAStoppedObject as taken_from_a_stopped_object
use Rattle.em_histories.proofs.wrong.EventTakenTwice as event_taken_twice
use Rattle.em_histories.proofs.wrong.AllocatedFromAnEmptyPool as allocated_from_an_empty_pool
use Rattle.em_histories.proofs.wrong.BootedTwice as booted_twice
use Rattle.em_histories.proofs.wrong.OrderEndedAgain as order_ended_again
use Rattle.em_histories.proofs.wrong.FailedStartTakenForGood as failed_start_taken_for_good
use Rattle.em_histories.proofs.wrong.NoteReceivedByItsStoppedObject as note_received_by_its_stopped_object
use Rattle.em_histories.proofs.wrong.DequeuedTwice as dequeued_twice
use Rattle.em_histories.proofs.wrong.UnknownHandleFreed as unknown_handle_freed
use Rattle.em_histories.proofs.wrong_histories.Goals as goal

pub returns-clause-released_in_the_wrong_order : goal.returns-clause-released_in_the_wrong_order
returns-clause-released_in_the_wrong_order c = released_in_the_wrong_order.is_wrong

pub returns-clause-released_before_its_ticket_is_the_first : goal.returns-clause-released_before_its_ticket_is_the_first
returns-clause-released_before_its_ticket_is_the_first c = released_before_its_ticket_is_the_first.is_wrong

pub returns-clause-held_send_that_never_enters : goal.returns-clause-held_send_that_never_enters
returns-clause-held_send_that_never_enters c = held_send_that_never_enters.is_unfinished

pub returns-clause-acknowledged_while_a_receive_runs : goal.returns-clause-acknowledged_while_a_receive_runs
returns-clause-acknowledged_while_a_receive_runs c = acknowledged_while_a_receive_runs.is_wrong

pub returns-clause-done_before_all_have_acknowledged : goal.returns-clause-done_before_all_have_acknowledged
returns-clause-done_before_all_have_acknowledged c = done_before_all_have_acknowledged.is_wrong

pub returns-clause-mask_in_force_before_all_have_acknowledged : goal.returns-clause-mask_in_force_before_all_have_acknowledged
returns-clause-mask_in_force_before_all_have_acknowledged c = mask_in_force_before_all_have_acknowledged.is_wrong

pub returns-clause-local_stop_entered_while_a_receive_runs : goal.returns-clause-local_stop_entered_while_a_receive_runs
returns-clause-local_stop_entered_while_a_receive_runs c = local_stop_entered_while_a_receive_runs.is_wrong

pub returns-clause-stale_handle_freed : goal.returns-clause-stale_handle_freed
returns-clause-stale_handle_freed c = stale_handle_freed.is_wrong

pub returns-clause-spent_handle_sent : goal.returns-clause-spent_handle_sent
returns-clause-spent_handle_sent c = spent_handle_sent.is_wrong

pub returns-clause-handle_given_again : goal.returns-clause-handle_given_again
returns-clause-handle_given_again c = handle_given_again.is_wrong

pub returns-clause-lower_priority_taken : goal.returns-clause-lower_priority_taken
returns-clause-lower_priority_taken c = lower_priority_taken.is_wrong

pub returns-clause-atomic_group_held_by_two_cores : goal.returns-clause-atomic_group_held_by_two_cores
returns-clause-atomic_group_held_by_two_cores c = atomic_group_held_by_two_cores.is_wrong

pub returns-clause-taken_from_a_disabled_queue : goal.returns-clause-taken_from_a_disabled_queue
returns-clause-taken_from_a_disabled_queue c = taken_from_a_disabled_queue.is_wrong

pub returns-clause-more_receives_than_the_limit : goal.returns-clause-more_receives_than_the_limit
returns-clause-more_receives_than_the_limit c = more_receives_than_the_limit.is_wrong

pub returns-clause-notified_twice : goal.returns-clause-notified_twice
returns-clause-notified_twice c = notified_twice.is_wrong

pub returns-clause-aborted_application_notifies : goal.returns-clause-aborted_application_notifies
returns-clause-aborted_application_notifies c = aborted_application_notifies.is_wrong

pub returns-clause-received_again_after_giving_back : goal.returns-clause-received_again_after_giving_back
returns-clause-received_again_after_giving_back c = received_again_after_giving_back.is_wrong

pub returns-clause-larger_burst_taken : goal.returns-clause-larger_burst_taken
returns-clause-larger_burst_taken c = larger_burst_taken.is_wrong

pub returns-clause-changed_while_a_change_is_pending : goal.returns-clause-changed_while_a_change_is_pending
returns-clause-changed_while_a_change_is_pending c = changed_while_a_change_is_pending.is_wrong

pub returns-clause-taken_before_the_early_end : goal.returns-clause-taken_before_the_early_end
returns-clause-taken_before_the_early_end c = taken_before_the_early_end.is_wrong

pub returns-clause-applied_while_busy : goal.returns-clause-applied_while_busy
returns-clause-applied_while_busy c = applied_while_busy.is_wrong

pub returns-clause-notified_before_the_last_end : goal.returns-clause-notified_before_the_last_end
returns-clause-notified_before_the_last_end c = notified_before_the_last_end.is_wrong

pub returns-clause-handle_of_another_core_freed : goal.returns-clause-handle_of_another_core_freed
returns-clause-handle_of_another_core_freed c = handle_of_another_core_freed.is_wrong

pub returns-clause-kept_event_not_found : goal.returns-clause-kept_event_not_found
returns-clause-kept_event_not_found c = kept_event_not_found.is_wrong

pub returns-clause-local_event_taken_elsewhere : goal.returns-clause-local_event_taken_elsewhere
returns-clause-local_event_taken_elsewhere c = local_event_taken_elsewhere.is_wrong

pub returns-clause-taken_from_a_stopped_object : goal.returns-clause-taken_from_a_stopped_object
returns-clause-taken_from_a_stopped_object c = taken_from_a_stopped_object.is_wrong

pub returns-clause-event_taken_twice : goal.returns-clause-event_taken_twice
returns-clause-event_taken_twice c = event_taken_twice.is_wrong

pub returns-clause-allocated_from_an_empty_pool : goal.returns-clause-allocated_from_an_empty_pool
returns-clause-allocated_from_an_empty_pool c = allocated_from_an_empty_pool.is_wrong

pub returns-clause-booted_twice : goal.returns-clause-booted_twice
returns-clause-booted_twice c = booted_twice.is_wrong

pub returns-clause-order_ended_again : goal.returns-clause-order_ended_again
returns-clause-order_ended_again c = order_ended_again.is_wrong

pub returns-clause-failed_start_taken_for_good : goal.returns-clause-failed_start_taken_for_good
returns-clause-failed_start_taken_for_good c = failed_start_taken_for_good.is_wrong

pub returns-clause-note_received_by_its_stopped_object : goal.returns-clause-note_received_by_its_stopped_object
returns-clause-note_received_by_its_stopped_object c = note_received_by_its_stopped_object.is_wrong

pub returns-clause-dequeued_twice : goal.returns-clause-dequeued_twice
returns-clause-dequeued_twice c = dequeued_twice.is_wrong

pub returns-clause-unknown_handle_freed : goal.returns-clause-unknown_handle_freed
returns-clause-unknown_handle_freed c = unknown_handle_freed.is_wrong
